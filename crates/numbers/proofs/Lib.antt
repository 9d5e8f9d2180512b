pub mod Numbers
pub mod Stands
pub mod Codecs
