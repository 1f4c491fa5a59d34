-- Code as its tokens.
use Rattle.std.specs.Prelude.{ℕ, List, ◌++◌}
use Rattle.code_scan.specs.declared.token.Token.{Token}
use Rattle.code_tokens.specs.Members.{with_members}
use Rattle.code_tokens.specs.Pairs.{alone}
use Rattle.code_scan.specs.Tokens.{found_in}

-- the tokens of code
abbrev pub code_tokens : List ℕ → List Token
code_tokens text = with_members text (found_in text).tokens

-- the places at which it isn't sure what is meant, with those of brackets that have no other
abbrev pub unread_places : List ℕ → List ℕ
unread_places text = (found_in text).unread ++ alone text (code_tokens text)
