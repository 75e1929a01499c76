mod Flows
mod RankingLemmas
