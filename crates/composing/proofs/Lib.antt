mod Cuts
mod Ledgers
mod Told
mod Again
mod Finished
