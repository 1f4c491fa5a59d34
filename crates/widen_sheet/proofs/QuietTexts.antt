-- Texts that are passed over by themselves wherever they stand: names, blanks, strings and marks.
use Rattle.std.proofs.Common.{◌≡◌, ℕ, ◌<◌, ◌==◌, ◌&&◌, ◌||◌, not, Bool, true, false, List, [], ◌∷◌, ◌++◌, length, codes, refl, sym, ap, ◌∙◌, arith, length-append, append_assoc, append-nil}
use Rattle.std.specs.List.{list_all}
use Rattle.std.proofs.lemmas.Bool.{and_parts}
use Rattle.std.proofs.lemmas.Bool.Decides.{nat_tests}
use Rattle.sel_text.proofs.NameLemmas.{not_byte}
use Rattle.css_read.specs.Rules.{list_ends}
use Rattle.css_read.specs.Units.{is_quote, behind_unit, after_byte, stops_at}
use Rattle.css_read.proofs.FrontLemmas.{comment_unit}
use Rattle.css_read.proofs.ListLemmas.{BeginsList}
use Rattle.css_read.proofs.PartLemmas.{IsPart}
use Rattle.css_read.proofs.ThinLemmas.{none_append, after_append}
use Rattle.css_read.proofs.UnitLemmas.{Chunk, flat, flat-append, IsCalm, is_gap, IsUnit, AreUnits, brackets_after, has_none, unit_byte, units_append, units_are, ends_string, string_passed, string_unit, with_solid, solids}
use Rattle.widen_sheet.specs.declared.marks.Mark.{Mark}
use Rattle.widen_sheet.specs.declared.marks.Mark.TheVariants as mark
use Rattle.widen_sheet.specs.Wide.{letter, joint, opening, closing, has}
use Rattle.widen_sheet.proofs.PieceLemmas.{close_found}

-- ---- chunks that open and close nothing, and at which nothing ends

pub record IsMild (c : Chunk) : Type 0 where
  pub unit : IsUnit c
  pub calm : (rest : List ℕ) → IsCalm c rest
  pub after : (os : _) → after_byte c.first os ≡ os
  pub lists : (inside : Bool) (os : _) → stops_at (list_ends inside) c.first os ≡ false
  pub commas : (os : _) → stops_at (codes ",") c.first os ≡ false

abbrev pub AreMild : List Chunk → Type 0
AreMild [] = Unit {0}
AreMild (c ∷ cs) = IsMild c × AreMild cs

pub mild_units : (cs : List Chunk) (rest : List ℕ) → AreMild cs → AreUnits cs rest
mild_units [] rest are = tt
mild_units (c ∷ cs) rest are = (are.0.unit, are.0.calm (flat cs ++ rest), mild_units cs rest are.1)

pub mild_after : (os : _) (cs : List Chunk) → AreMild cs → brackets_after os cs ≡ os
mild_after os [] are = refl
mild_after os (c ∷ cs) are = ap (λ ps. brackets_after ps cs) (are.0.after os) ∙ mild_after os cs are.1

pub mild_lists : (inside : Bool) (os : _) (cs : List Chunk) → AreMild cs → has_none (list_ends inside) os cs ≡ true
mild_lists inside os [] are = refl
mild_lists inside os (c ∷ cs) are = rw (are.0.lists inside os, are.0.after os) (mild_lists inside os cs are.1)

pub mild_commas : (os : _) (cs : List Chunk) → AreMild cs → has_none (codes ",") os cs ≡ true
mild_commas os [] are = refl
mild_commas os (c ∷ cs) are = rw (are.0.commas os, are.0.after os) (mild_commas os cs are.1)

pub mild_both : (cs ds : List Chunk) → AreMild cs → AreMild ds → AreMild (cs ++ ds)
mild_both [] ds are others = others
mild_both (c ∷ cs) ds are others = (are.0, mild_both cs ds are.1 others)

pub record MildText (bs : List ℕ) : Type 0 where
  pub chunks : List Chunk
  pub flat_is : flat chunks ≡ bs
  pub are : AreMild chunks

abbrev pub mild_none : MildText []
mild_none = record { chunks = []; flat_is = refl; are = tt }

abbrev pub mild_append : (xs ys : List ℕ) → MildText xs → MildText ys → MildText (xs ++ ys)
mild_append xs ys a b = record {
  chunks = a.chunks ++ b.chunks;
  flat_is = flat-append a.chunks b.chunks ∙ ap (λ bs. bs ++ flat b.chunks) a.flat_is ∙ ap (λ bs. xs ++ bs) b.flat_is;
  are = mild_both a.chunks b.chunks a.are b.are;
}

-- ---- bytes

-- no quote, no bracket, no `,` and no `/`
abbrev pub is_quiet : ℕ → Bool
is_quiet b = not (b == 34 || b == 39 || b == 40 || b == 41 || b == 44 || b == 47 || b == 91 || b == 93 || b == 123 || b == 125)

byte_after : (b : ℕ) (os : _) → is_quiet b ≡ true → after_byte b os ≡ os
unfolding after_byte
byte_after b os quiet = rw (not_byte is_quiet 40 b refl quiet, not_byte is_quiet 91 b refl quiet, not_byte is_quiet 123 b refl quiet, not_byte is_quiet 41 b refl quiet, not_byte is_quiet 93 b refl quiet, not_byte is_quiet 125 b refl quiet) refl

byte_lists : (b : ℕ) (inside : Bool) (os : _) → is_quiet b ≡ true → stops_at (list_ends inside) b os ≡ false
byte_lists b true os quiet = let one = not_byte is_quiet 123 b refl quiet in let other = not_byte is_quiet 125 b refl quiet in grind (arith, nat_tests)
byte_lists b false os quiet = let one = not_byte is_quiet 123 b refl quiet in grind (arith, nat_tests)

byte_commas : (b : ℕ) (os : _) → is_quiet b ≡ true → stops_at (codes ",") b os ≡ false
byte_commas b os quiet = let one = not_byte is_quiet 44 b refl quiet in grind (arith, nat_tests)

byte_quote : (b : ℕ) → is_quiet b ≡ true → is_quote b ≡ false
byte_quote b quiet = rw (not_byte is_quiet 34 b refl quiet, not_byte is_quiet 39 b refl quiet) refl

slash_loud : (b : ℕ) → is_quiet b ≡ true → b ≡ 47 → ⊥
slash_loud b quiet is = let wrong : is_quiet 47 ≡ true = rw is at quiet in no wrong
  where
    no : false ≡ true → ⊥
    no e = cc

pub byte_mild : (b : ℕ) → is_quiet b ≡ true → IsMild (record { first = b; more = [] })
byte_mild b quiet = record {
  unit = unit_byte b (byte_quote b quiet);
  calm = λ rest none is. absurd (slash_loud b quiet is);
  after = λ os. byte_after b os quiet;
  lists = λ inside os. byte_lists b inside os quiet;
  commas = λ os. byte_commas b os quiet;
}

abbrev pub mild_byte : (b : ℕ) → is_quiet b ≡ true → MildText (b ∷ [])
mild_byte b quiet = record { chunks = (record { first = b; more = [] }) ∷ []; flat_is = refl; are = (byte_mild b quiet, tt) }

abbrev pub mild_bytes : (bs : List ℕ) → list_all is_quiet bs ≡ true → MildText bs
mild_bytes [] all = mild_none
mild_bytes (b ∷ bs) all = let both = and_parts (is_quiet b) (list_all is_quiet bs) all in mild_append (b ∷ []) bs (mild_byte b both.0) (mild_bytes bs both.1)

-- ---- strings and comments

string_tame : (quote : ℕ) (m : List ℕ) → ends_string quote false m ≡ true → (not (is_quote quote) || ends_string quote false m) ≡ true
string_tame quote m ends = rw ends (by (not (is_quote quote)))
  where
    by : (t : Bool) → (t || true) ≡ true
    by true = refl
    by false = refl

and_itself : (x y : Bool) → x ≡ true → y ≡ true → (x && y) ≡ true
and_itself x y first second = rw (first, second) refl

quote_after : (quote : ℕ) (os : _) → is_quote quote ≡ true → after_byte quote os ≡ os
unfolding after_byte
quote_after quote os is =
    rw (not_byte is_quote 40 quote refl is, not_byte is_quote 91 quote refl is, not_byte is_quote 123 quote refl is, not_byte is_quote 41 quote refl is, not_byte is_quote 93 quote refl is, not_byte is_quote 125 quote refl is) refl

quote_lists : (quote : ℕ) (inside : Bool) (os : _) → is_quote quote ≡ true → stops_at (list_ends inside) quote os ≡ false
quote_lists quote true os is = let one = not_byte is_quote 123 quote refl is in let other = not_byte is_quote 125 quote refl is in grind (arith, nat_tests)
quote_lists quote false os is = let one = not_byte is_quote 123 quote refl is in grind (arith, nat_tests)

quote_commas : (quote : ℕ) (os : _) → is_quote quote ≡ true → stops_at (codes ",") quote os ≡ false
quote_commas quote os is = let one = not_byte is_quote 44 quote refl is in grind (arith, nat_tests)

not_slash : (b : ℕ) → is_quote b ≡ true → b ≡ 47 → ⊥
not_slash b quote is = let wrong : is_quote 47 ≡ true = rw is at quote in not_end wrong
  where
    not_end : false ≡ true → ⊥
    not_end same = cc

pub mild_string : (quote : ℕ) (m : List ℕ) → is_quote quote ≡ true → ends_string quote false m ≡ true → MildText (quote ∷ m)
mild_string quote m is ends =
    let c : Chunk = record { first = quote; more = m } in
    let passed : behind_unit (quote ∷ m ++ 44 ∷ []) ≡ 44 ∷ [] = string_unit quote (m ++ 44 ∷ []) is ∙ string_passed quote false m (44 ∷ []) ends in
    let units = units_are (c ∷ []) 44 [] (passed, tt) (and_itself _ true (string_tame quote m ends) refl) in
    record {
      chunks = c ∷ [];
      flat_is = ap (λ bs. quote ∷ bs) (append-nil m);
      are = (record { unit = units.0; calm = λ rest none slash. absurd (not_slash quote is slash); after = λ os. quote_after quote os is; lists = λ inside os. quote_lists quote inside os is; commas = λ os. quote_commas quote os is }, tt);
    }

pub comment_after : (os : _) → after_byte 47 os ≡ os
unfolding after_byte
comment_after os = refl

pub comment_lists : (inside : Bool) (os : _) → stops_at (list_ends inside) 47 os ≡ false
comment_lists true os = refl
comment_lists false os = refl

pub not_empty : (own : List ℕ) → 42 ∷ (own ++ codes "~*/") ≡ [] → ⊥
not_empty own e = cc

-- a comment without its `*/`, up to the `~` before it
abbrev pub mild_comment : (own : List ℕ) → has (codes "*/") own ≡ false → MildText (47 ∷ 42 ∷ (own ++ codes "~*/"))
mild_comment own none =
    let m : List ℕ = 42 ∷ (own ++ codes "~*/") in
    let c : Chunk = record { first = 47; more = m } in
    let text : m ++ 44 ∷ [] ≡ 42 ∷ (own ++ 126 ∷ 42 ∷ 47 ∷ 44 ∷ []) = ap (λ bs. 42 ∷ bs) (append_assoc own (codes "~*/") (44 ∷ [])) in
    let passed : behind_unit (47 ∷ m ++ 44 ∷ []) ≡ 44 ∷ [] = ap (λ bs. behind_unit (47 ∷ bs)) text ∙ comment_unit 47 (42 ∷ (own ++ 126 ∷ 42 ∷ 47 ∷ 44 ∷ [])) refl ∙ close_found own (44 ∷ []) none in
    let units = units_are (c ∷ []) 44 [] (passed, tt) refl in
    record {
      chunks = c ∷ [];
      flat_is = ap (λ bs. 47 ∷ bs) (append-nil m);
      are = (record { unit = units.0; calm = λ rest none slash. absurd (not_empty own none); after = comment_after; lists = comment_lists; commas = λ os. refl }, tt);
    }

-- ---- texts that open and close their brackets

pub record QuietText (bs : List ℕ) : Type 0 where
  pub chunks : List Chunk
  pub flat_is : flat chunks ≡ bs
  pub units : (rest : List ℕ) → AreUnits chunks rest
  pub part : (inside : Bool) → IsPart (list_ends inside) [] chunks

abbrev pub mild_quiet : (bs : List ℕ) → MildText bs → QuietText bs
mild_quiet bs a = record {
  chunks = a.chunks;
  flat_is = a.flat_is;
  units = λ rest. mild_units a.chunks rest a.are;
  part = λ inside. record { passes = mild_lists inside [] a.chunks a.are; commas = mild_commas [] a.chunks a.are; closed = mild_after [] a.chunks a.are };
}

pub bracket_lists : (inside : Bool) → stops_at (list_ends inside) 91 [] ≡ false
bracket_lists true = refl
bracket_lists false = refl

pub close_lists : (inside : Bool) (os : _) → stops_at (list_ends inside) 93 os ≡ false
close_lists true os = refl
close_lists false os = refl

pub bracket_closed : after_byte 93 (after_byte 91 []) ≡ []
unfolding after_byte
bracket_closed = refl

pub not_slash_91 : ◌≡◌ {A = ℕ} 91 47 → ⊥
not_slash_91 e = omega (arith, e)

pub not_slash_93 : ◌≡◌ {A = ℕ} 93 47 → ⊥
not_slash_93 e = omega (arith, e)

-- what is in brackets
abbrev pub in_brackets : (bs : List ℕ) → MildText bs → QuietText (91 ∷ (bs ++ 93 ∷ []))
in_brackets bs a =
    let open' : Chunk = record { first = 91; more = [] } in
    let close : Chunk = record { first = 93; more = [] } in
    let cs = a.chunks in
    let inner = after_byte 91 [] in
    record {
      chunks = open' ∷ (cs ++ close ∷ []);
      flat_is = ap (λ xs. 91 ∷ xs) (flat-append cs (close ∷ []) ∙ ap (λ xs. xs ++ 93 ∷ []) a.flat_is);
      units = λ rest. (unit_byte 91 refl, (λ none is. absurd (not_slash_91 is)), units_append cs (close ∷ []) rest (mild_units cs (93 ∷ rest) a.are) (unit_byte 93 refl, (λ none is. absurd (not_slash_93 is)), tt));
      part = λ inside. record {
        passes = rw (bracket_lists inside, none_append (list_ends inside) inner cs (close ∷ []), mild_lists inside inner cs a.are, close_lists inside (brackets_after inner cs)) refl;
        commas = rw (none_append (codes ",") inner cs (close ∷ []), mild_commas inner cs a.are) refl;
        closed = after_append inner cs (close ∷ []) ∙ ap (λ os. after_byte 93 os) (mild_after inner cs a.are) ∙ bracket_closed;
      };
    }

pub part_both : (inside : Bool) (cs ds : List Chunk) → IsPart (list_ends inside) [] cs → IsPart (list_ends inside) [] ds → IsPart (list_ends inside) [] (cs ++ ds)
part_both inside cs ds a b = record {
  passes = none_append (list_ends inside) [] cs ds ∙ rw (a.passes, a.closed) b.passes;
  commas = none_append (codes ",") [] cs ds ∙ rw (a.commas, a.closed) b.commas;
  closed = after_append [] cs ds ∙ rw a.closed b.closed;
}

-- ---- texts that begin and end with no gap

-- that begins with no gap
pub record FrontText (bs : List ℕ) : Type 0 where
  pub quiet : QuietText bs
  pub some : 0 < length quiet.chunks
  pub begins : BeginsList quiet.chunks

abbrev pub EndsSolid : {bs : List ℕ} → QuietText bs → Type 0
EndsSolid q = solids q.chunks ≡ q.chunks

-- that ends with no gap, and begins with none where a compound is wanted
pub record TailText (wanted : Bool) (bs : List ℕ) : Type 0 where
  pub quiet : QuietText bs
  pub ends : EndsSolid quiet
  pub begins : wanted ≡ true → (0 < length quiet.chunks) × BeginsList quiet.chunks

abbrev pub both_quiet : (xs ys : List ℕ) → QuietText xs → QuietText ys → QuietText (xs ++ ys)
both_quiet xs ys a b = record {
  chunks = a.chunks ++ b.chunks;
  flat_is = flat-append a.chunks b.chunks ∙ ap (λ bs. bs ++ flat b.chunks) a.flat_is ∙ ap (λ bs. xs ++ bs) b.flat_is;
  units = λ rest. units_append a.chunks b.chunks rest (a.units (flat b.chunks ++ rest)) (b.units rest);
  part = λ inside. part_both inside a.chunks b.chunks (a.part inside) (b.part inside);
}

solid_more : (c : Chunk) (ds : List Chunk) → 0 < length ds → with_solid (is_gap c) c ds ≡ c ∷ ds
solid_more c [] some = absurd (omega arith)
solid_more c (d ∷ ds) some = by (is_gap c)
  where
    by : (t : Bool) → with_solid t c (d ∷ ds) ≡ c ∷ d ∷ ds
    by true = refl
    by false = refl

pub solids_some : (cs ds : List Chunk) → 0 < length ds → solids ds ≡ ds → solids (cs ++ ds) ≡ cs ++ ds
solids_some [] ds some ends = ends
solids_some (c ∷ cs) ds some ends = ap (with_solid (is_gap c) c) (solids_some cs ds some ends) ∙ solid_more c (cs ++ ds) (omega (arith, some, length-append cs ds))

solids_both : (cs ds : List Chunk) → solids cs ≡ cs → solids ds ≡ ds → solids (cs ++ ds) ≡ cs ++ ds
solids_both cs [] first ends = ap solids (append-nil cs) ∙ first ∙ sym (append-nil cs)
solids_both cs (d ∷ ds) first ends = solids_some cs (d ∷ ds) (omega arith) ends

begins_more : (cs ds : List Chunk) → 0 < length cs → BeginsList cs → BeginsList (cs ++ ds)
begins_more [] ds some begins = absurd (omega arith)
begins_more (c ∷ cs) ds some begins = begins

-- a part, and what is behind it
pub part_then : (wanted : Bool) (xs ys : List ℕ) (a : FrontText xs) → EndsSolid a.quiet → TailText false ys → TailText wanted (xs ++ ys)
part_then wanted xs ys a ends b = record {
  quiet = both_quiet xs ys a.quiet b.quiet;
  ends = solids_both a.quiet.chunks b.quiet.chunks ends b.ends;
  begins = λ is. (omega (arith, a.some, length-append a.quiet.chunks b.quiet.chunks), begins_more a.quiet.chunks b.quiet.chunks a.some a.begins);
}

-- a front that ends as it likes, before a compound
pub front_then : (wanted : Bool) (xs ys : List ℕ) → FrontText xs → TailText true ys → TailText wanted (xs ++ ys)
front_then wanted xs ys a b = record {
  quiet = both_quiet xs ys a.quiet b.quiet;
  ends = solids_some a.quiet.chunks b.quiet.chunks (b.begins refl).0 b.ends;
  begins = λ is. (omega (arith, a.some, length-append a.quiet.chunks b.quiet.chunks), begins_more a.quiet.chunks b.quiet.chunks a.some a.begins);
}

-- a combinator, before a compound
pub join_then : (xs ys : List ℕ) → QuietText xs → TailText true ys → TailText false (xs ++ ys)
join_then xs ys a b = record {
  quiet = both_quiet xs ys a b.quiet;
  ends = solids_some a.chunks b.quiet.chunks (b.begins refl).0 b.ends;
  begins = λ is. absurd (wrong is);
}
  where
    wrong : false ≡ true → ⊥
    wrong e = cc

pub nothing_behind : TailText false []
nothing_behind = record { quiet = mild_quiet [] mild_none; ends = refl; begins = λ is. absurd (wrong is) }
  where
    wrong : false ≡ true → ⊥
    wrong e = cc

-- ---- marks

pub still_none : (m : Mark) (own : List ℕ) → has (codes "*/") own ≡ false → has (codes "*/") (126 ∷ letter m ∷ own) ≡ false
unfolding has
still_none mark.Part own none = none
still_none mark.Inside own none = none
still_none mark.Child own none = none

abbrev joint_mild : (m : Mark) → MildText (joint m)
joint_mild mark.Part = mild_none
joint_mild mark.Inside = mild_bytes (32 ∷ []) refl
joint_mild mark.Child = mild_bytes (62 ∷ []) refl

abbrev mark_mild : (m : Mark) (own : List ℕ) → has (codes "*/") own ≡ false → MildText (codes ":hover" ++ ((codes "/*~" ++ (letter m ∷ (own ++ codes "~*/"))) ++ (codes ":hover" ++ joint m)))
mark_mild m own none =
    mild_append (codes ":hover") _ (mild_bytes (codes ":hover") refl)
    (mild_append (codes "/*~" ++ (letter m ∷ (own ++ codes "~*/"))) (codes ":hover" ++ joint m) (mild_comment (126 ∷ letter m ∷ own) (still_none m own none)) (mild_append (codes ":hover") (joint m) (mild_bytes (codes ":hover") refl) (joint_mild m)))

abbrev pub whole_mark : Mark → List ℕ → List ℕ
whole_mark m own = codes ":hover" ++ ((codes "/*~" ++ (letter m ∷ (own ++ codes "~*/"))) ++ (codes ":hover" ++ joint m))

pub mark_is : (m : Mark) (own rest : List ℕ) → opening m ++ (own ++ (closing m ++ rest)) ≡ whole_mark m own ++ rest
mark_is m own rest = by (letter m)
  where
    tail : own ++ (closing m ++ rest) ≡ (own ++ codes "~*/") ++ ((codes ":hover" ++ joint m) ++ rest)
    tail = sym (append_assoc own (codes "~*/") ((codes ":hover" ++ joint m) ++ rest))

    by : (k : ℕ) → (codes ":hover/*~" ++ k ∷ []) ++ (own ++ (closing m ++ rest)) ≡ (codes ":hover" ++ ((codes "/*~" ++ (k ∷ (own ++ codes "~*/"))) ++ (codes ":hover" ++ joint m))) ++ rest
    by k = ap (λ bs. codes ":hover/*~" ++ (k ∷ bs)) (tail ∙ sym (append_assoc (own ++ codes "~*/") (codes ":hover" ++ joint m) rest))

abbrev pub mark_front : (m : Mark) (own : List ℕ) → has (codes "*/") own ≡ false → FrontText (whole_mark m own)
mark_front m own none = record {
  quiet = mild_quiet (whole_mark m own) (mark_mild m own none);
  some = omega arith;
  begins = (refl, refl);
}

pub mark_solid : (own : List ℕ) (none : has (codes "*/") own ≡ false) → EndsSolid (mark_front mark.Part own none).quiet
mark_solid own none = refl
