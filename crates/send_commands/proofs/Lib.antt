-- What the proofs of stations use.
mod Stations
