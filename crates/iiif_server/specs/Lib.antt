pub mod Nodes
pub mod GroupConfigs
pub mod Code
pub mod Asking
pub mod Answering
pub mod Peers
