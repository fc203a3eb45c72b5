mod WordRuns
mod Later
mod OwnBlockLemmas
mod Frees
