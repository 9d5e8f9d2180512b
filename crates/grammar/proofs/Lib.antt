pub mod Backs
pub mod Cuts
pub mod Numbers
pub mod Onlys
pub mod Words
