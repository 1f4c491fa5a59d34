-- One text written after another.
use Rattle.std.proofs.Common.{◌≡◌, ℕ, min, List, [], ◌∷◌, ◌++◌, length, take, Option, Result, Ok, Err, sym, ap, ◌∙◌, arith, subst}
use Rattle.std.proofs.lemmas.List.{take_min, take-append-le}
use Rattle.tp_io.specs.Sinks.{AddsPrefix}
use Rattle.tp_io.proofs.SinkLemmas.{adds_nothing, adds_more, adds_prefix_more, rose_later}
use Rattle.premise_lines.specs.declared.stops.Stop.{Stop}
use Rattle.premise_lines.specs.declared.stops.Stop.TheVariants.{Words, TooLarge, ReadFault, NotUtf8, WriteFault, NoMemory}
use Rattle.premise_finds.specs.declared.findings.Finding.{Finding}
use Rattle.premise_lines.specs.declared.stops.Part.{Part}
use Rattle.premise_lines.specs.declared.stops.Status.{Status}
use Rattle.premise_lines.specs.Lines.{line_of, lines_of}
use Rattle.premise_lines.specs.Runs.{Writes, WritesWith}
use Rattle.premise_lines.specs.Tells.{Put, put_of}

-- the first bytes of a front are the first bytes of the whole
pub first_of_front : (old new : Option (List ℕ)) (xs ys : List ℕ) → AddsPrefix old new xs → AddsPrefix old new (xs ++ ys)
first_of_front old new xs ys (count, is) =
    let n : ℕ = min count (length xs) in
    let same : take n (xs ++ ys) ≡ take count xs = take-append-le n xs ys (omega arith) ∙ take_min count xs in
    (n, rw same is)

module _ (old mid new : Option (List ℕ)) (f m n : ℕ) (xs ys : List ℕ) (first : Writes xs (put_of old mid f m) (Ok tt)) where
  pub then_writes : (r : Result (Unit {0}) Stop) → Writes ys (put_of mid new m n) r → Writes (xs ++ ys) (put_of old new f n) r
  then_writes (Ok done) second = (adds_more old mid new xs ys first.0 second.0, omega arith)
  then_writes (Err Words) second = absurd second
  then_writes (Err (TooLarge p)) second = absurd second
  then_writes (Err (ReadFault p)) second = absurd second
  then_writes (Err (NotUtf8 p place)) second = absurd second
  then_writes (Err WriteFault) second = (adds_prefix_more old mid new xs ys first.0 second.0, rose_later f m n first.1 second.1)
  then_writes (Err NoMemory) second = (adds_prefix_more old mid new xs ys first.0 second.0, omega arith)

-- what is cut off in a front is cut off in the whole
pub cut_in_front : (out : Put) (xs ys : List ℕ) (e : Stop) → Writes xs out (Err e) → Writes (xs ++ ys) out (Err e)
cut_in_front out xs ys Words is = absurd is
cut_in_front out xs ys (TooLarge p) is = absurd is
cut_in_front out xs ys (ReadFault p) is = absurd is
cut_in_front out xs ys (NotUtf8 p place) is = absurd is
cut_in_front out xs ys WriteFault is = (first_of_front out.held out.held' xs ys is.0, is.1)
cut_in_front out xs ys NoMemory is = (first_of_front out.held out.held' xs ys is.0, is.1)

pub nothing_written : (held : Option (List ℕ)) (faults : ℕ) → Writes [] (put_of held held faults faults) (Ok tt)
nothing_written held faults = (adds_nothing held, omega arith)

-- ---- lines

module _ (part : Part) (text : List ℕ) (left others : List Finding) (x : Finding) (is : left ≡ x ∷ others) where
  pub line_cut : (out : Put) (e : Stop) → Writes (line_of part text x) out (Err e) → Writes (lines_of part text left) out (Err e)
  line_cut out e cut = subst (λ (z : List Finding). Writes (lines_of part text z) out (Err e)) (sym is) (cut_in_front out (line_of part text x) (lines_of part text others) e cut)

  pub line_done : (old mid new : Option (List ℕ)) (f m n : ℕ) (r : Result (Unit {0}) Stop) → Writes (line_of part text x) (put_of old mid f m) (Ok tt) → Writes (lines_of part text others) (put_of mid new m n) r → Writes (lines_of part text left) (put_of old new f n) r
  line_done old mid new f m n r first later = subst (λ (z : List Finding). Writes (lines_of part text z) (put_of old new f n) r) (sym is) (then_writes old mid new f m n (line_of part text x) (lines_of part text others) first r later)

pub lines_of_none : (part : Part) (text : List ℕ) (left : List Finding) (held : Option (List ℕ)) (faults : ℕ) → left ≡ [] → Writes (lines_of part text left) (put_of held held faults faults) (Ok tt)
lines_of_none part text left held faults none = subst (λ (z : List Finding). Writes (lines_of part text z) (put_of held held faults faults) (Ok tt)) (sym none) (nothing_written held faults)

pub line_unmade : (part : Part) (text : List ℕ) (left : List Finding) (held : Option (List ℕ)) (faults : ℕ) → Writes (lines_of part text left) (put_of held held faults faults) (Err NoMemory)
line_unmade part text left held faults = ((0, adds_nothing held), omega arith)

-- the same text
pub as_text : (xs ys : List ℕ) → xs ≡ ys → (out : Put) (r : Result (Unit {0}) Stop) → Writes xs out r → Writes ys out r
as_text xs ys is out r writes = subst (λ (z : List ℕ). Writes z out r) is writes

pub as_lines : (part : Part) (text text' : List ℕ) (found found' : List Finding) → text ≡ text' → found ≡ found' → lines_of part text found ≡ lines_of part text' found'
as_lines part text text' found found' same of = ap (λ (z : List ℕ). lines_of part z found) same ∙ ap (lines_of part text') of

-- ---- the report

-- a text that is cut off has no status of its own
pub cut_with : (text : List ℕ) (whole : Status) (out : Put) (e : Stop) → Writes text out (Err e) → WritesWith text whole out (Err e)
cut_with text whole out Words is = absurd is
cut_with text whole out (TooLarge p) is = absurd is
cut_with text whole out (ReadFault p) is = absurd is
cut_with text whole out (NotUtf8 p place) is = absurd is
cut_with text whole out WriteFault is = is
cut_with text whole out NoMemory is = is.0
