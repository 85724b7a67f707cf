-- What is shared by the proofs of the edge of the air.
mod Getting
mod Joining
mod Waiting
