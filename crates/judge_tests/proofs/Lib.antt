mod OverLemmas
