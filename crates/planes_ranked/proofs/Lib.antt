-- The laws of the ranked planes.
mod Ranking
mod Ranked
