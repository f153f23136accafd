mod IndexLaws
mod Walk
mod ByRank
