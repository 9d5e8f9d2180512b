pub mod Reading
pub mod Numbers
pub mod Laws
