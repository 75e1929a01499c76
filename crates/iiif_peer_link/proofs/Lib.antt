mod Asked
mod Long
