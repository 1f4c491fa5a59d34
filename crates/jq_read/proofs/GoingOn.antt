-- What calls that read keep, one behind another.
use Rattle.std.proofs.Common.{◌≡◌, ℕ, List, Ok, ap, ◌∙◌}
use Rattle.sel_text.proofs.Fronts.{front_of_front}
use Rattle.jq_words.specs.Words.{Word, Rest}
use Rattle.jq_words.specs.Results.{InFile}
use Rattle.jq_read.specs.declared.readings.Reading.{Reading}
use Rattle.jq_read.specs.States.{Context}
use Rattle.jq_read.specs.Readers.{context_of, GoesOn}

-- a file of the same size
pub same_size : (c : Context) (n : ℕ) → n ≡ c.size → record c { size = n } ≡ c
same_size c n same = ap (λ m. record c { size = m }) same

-- what holds at a place holds at another of the file, whichever it is
elsewhere : (a b : Reading) (v w : Rest) → context_of b ≡ context_of (record a { words = v }) → context_of (record b { words = w }) ≡ context_of (record a { words = w })
elsewhere a b v w kept = ap (λ (c : Context). record c { size = w.size }) kept

-- before one and behind it words may be passed
pub with_words : {X Y : Type 0} {L M : List Word → List Word → Type 0} {a b : Reading} {x : X} {y : Y} {v w : Rest}
    → GoesOn L (record a { words = v }) b (Ok x) → InFile M a.words w → GoesOn M a (record b { words = w }) (Ok y)
with_words {a = a} {b = b} {v = v} {w = w} read left =
    record { rest = left; kept = elsewhere a b v w read.kept ∙ same_size (context_of a) w.size left.size; front = read.front }

-- and between two
pub both : {X Y Z : Type 0} {L M N : List Word → List Word → Type 0} {a b c : Reading} {x : X} {y : Y} {z : Z} {u v w : Rest}
    → GoesOn L (record a { words = u }) b (Ok x) → GoesOn M (record b { words = v }) c (Ok y) → InFile N a.words w → GoesOn N a (record c { words = w }) (Ok z)
both {a = a} {b = b} {c = c} {u = u} {v = v} {w = w} first second left =
    record {
      rest = left;
      kept = elsewhere b c v w second.kept ∙ elsewhere a b u w first.kept ∙ same_size (context_of a) w.size left.size;
      front = front_of_front _ _ _ first.front second.front;
    }
