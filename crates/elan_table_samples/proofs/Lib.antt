pub mod MatchesLemmas
