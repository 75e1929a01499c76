mod Finishing
mod Knowing
