-- The lemmas of quoting, and of scripts that are made to fit.
mod Alone
mod Ends
mod Taking
