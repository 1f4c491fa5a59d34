mod FlagLemmas
