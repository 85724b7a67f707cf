-- Who gives its place to one more, and from where one comes.
pub mod Seats
pub mod Origin
pub mod Laws
