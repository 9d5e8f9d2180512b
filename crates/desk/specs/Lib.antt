pub mod Deeds
pub mod Desks
pub mod Feeds
pub mod Numbers
pub mod Places
