-- The arguments in the brackets of a file, noted word by word.
use Rattle.std.proofs.Common.{◌≡◌, ℕ, zero, suc, ◌+◌, ◌-◌, ◌<◌, ◌≤◌, Bool, true, false, ◌&&◌, if◌then◌else◌, List, [], ◌∷◌, ◌++◌, length, map, drop, take, reverse, codes, bytes_eq, nat_eq, Option, Some, None, Box, cond, refl, sym, ap, ◌∙◌, arith, append-nil, length-append}
use Rattle.std.proofs.lemmas.List.{map-append, reverse-append}
use Rattle.std.proofs.lemmas.Bool.{eqb-true}
use Rattle.std.proofs.lemmas.Slice.Eq.{bytes_eq-Decides}
use Rattle.std.specs.Map.{lookup}
use Rattle.std.specs.Option.{option_copied}
use Rattle.std.specs.Prelude.{IfSome}
use denote.Bor.{Bor}
use Rattle.std.specs.Global.{Global}
use Rattle.tp_base.proofs.Truths.{and_false}
use Rattle.jq_words.specs.declared.brackets.Bracket.{Bracket}
use Rattle.jq_words.specs.Words.{Word, Rest, is_mark, is_mark_kind}
use Rattle.jq_words.specs.Brackets.{is_empty, is_innermost, opened_by, closed_by, closes_outer, brackets_behind, ends_argument}
use Rattle.jq_words.specs.Results.{IsRest}
use Rattle.jq_words.proofs.Rests.{itself, of_rest, behind_first}
use Rattle.jq_cursor.specs.declared.argument_lists.Arguments.{Arguments}
use Rattle.jq_cursor.specs.declared.open_lists.Open.{Open}
use Rattle.jq_cursor.specs.declared.open_lists.Pending.{Pending}
use Rattle.jq_cursor.specs.Lists.{Extent, extent}
use Rattle.jq_cursor.specs.Spans.{span, span_at, and_comma, extent_from, CanCount}
use Rattle.jq_cursor.specs.Notes.{Ascends, IsNote, above, GoesOn, Holds, Ends, AllEnd}
use Rattle.jq_cursor.specs.ListViews.{extent_of}
use Rattle.jq_cursor.specs.Commas.{pending_in, with_comma}
use Rattle.jq_cursor.proofs.SpanSteps.{more_one, ends_one, over, from_span}
use Rattle.jq_cursor.proofs.OrderSteps.{same_rest}

-- ---- marks

second : (a b : Bool) → (a && b) ≡ true → b ≡ true
second true b is = is
second false b is = cc

-- a mark is no other
other_mark : (s t : List ℕ) (w : Word) → bytes_eq s t ≡ false → is_mark s w ≡ true → is_mark t w ≡ false
unfolding is_mark
other_mark s t w other is =
    let same : w.spelling ≡ s = (bytes_eq-Decides w.spelling s).0 (second (is_mark_kind w.kind) (bytes_eq w.spelling s) is) in
    ap (λ x. is_mark_kind w.kind && bytes_eq x t) same ∙ ap (λ b. is_mark_kind w.kind && b) other ∙ and_false (is_mark_kind w.kind)

semicolon_opens : (w : Word) → is_mark (codes ";") w ≡ true → opened_by w ≡ None
unfolding opened_by
semicolon_opens w is = rw (other_mark (codes ";") (codes "(") w refl is, other_mark (codes ";") (codes "[") w refl is, other_mark (codes ";") (codes "{") w refl is) refl

comma_opens : (w : Word) → is_mark (codes ",") w ≡ true → opened_by w ≡ None
unfolding opened_by
comma_opens w is = rw (other_mark (codes ",") (codes "(") w refl is, other_mark (codes ",") (codes "[") w refl is, other_mark (codes ",") (codes "{") w refl is) refl

-- ---- one word of arguments

turned : (bs cs : List Bracket) (n m : ℕ) (w : Word) (ws : List Word) → ends_argument false bs w ≡ false → brackets_behind bs w ≡ cs → and_comma bs w n ≡ m
    → span bs n (w ∷ ws) ≡ span cs m ws
turned bs cs n m w ws ends behind commas = more_one bs n w ws ends ∙ ap (λ os. span os (and_comma bs w n) ws) behind ∙ ap (λ k. span cs k ws) commas

no_close : (bs : List Bracket) (w : Word) → closed_by w ≡ None → closes_outer bs w ≡ false
unfolding closes_outer
no_close bs w none = rw none refl

still : (bs : List Bracket) (w : Word) → closed_by w ≡ None → opened_by w ≡ None → brackets_behind bs w ≡ bs
unfolding brackets_behind
still bs w closed opened = rw (closed, opened) refl

one_more : (bs : List Bracket) (b : Bracket) (w : Word) → closed_by w ≡ None → opened_by w ≡ Some b → brackets_behind bs w ≡ b ∷ bs
unfolding brackets_behind
one_more bs b w closed opened = rw (closed, opened) refl

one_less : (bs : List Bracket) (b : Bracket) (w : Word) → closed_by w ≡ Some b → brackets_behind bs w ≡ drop 1 bs
unfolding brackets_behind
one_less bs b w closed = rw closed refl

-- no end inside brackets
inside : (b : Bracket) (bs : List Bracket) (w : Word) → closes_outer (b ∷ bs) w ≡ false → ends_argument false (b ∷ bs) w ≡ false
unfolding ends_argument
inside b bs w closes = rw closes refl

no_end : (bs : List Bracket) (w : Word) → closed_by w ≡ None → is_mark (codes ";") w ≡ false → ends_argument false bs w ≡ false
unfolding ends_argument
no_end bs w closed other = rw (no_close bs w closed, other) (and_false (is_empty bs))

no_comma : (bs : List Bracket) (w : Word) (n : ℕ) → is_mark (codes ",") w ≡ false → and_comma bs w n ≡ n
no_comma bs w n other = rw (other, and_false (is_empty bs)) (omega arith)

not_counted : (b : Bracket) (bs : List Bracket) (w : Word) (n : ℕ) → and_comma (b ∷ bs) w n ≡ n
not_counted b bs w n = omega arith

plain_span : (w : Word) (ws : List Word) → closed_by w ≡ None → opened_by w ≡ None → is_mark (codes ";") w ≡ false → is_mark (codes ",") w ≡ false
    → (bs : List Bracket) (n : ℕ) → span bs n (w ∷ ws) ≡ span bs n ws
plain_span w ws closed opened semicolon comma bs n = turned bs bs n n w ws (no_end bs w closed semicolon) (still bs w closed opened) (no_comma bs w n comma)

inner_span : (w : Word) (ws : List Word) → closed_by w ≡ None → opened_by w ≡ None → (b : Bracket) (bs : List Bracket) (n : ℕ) → span (b ∷ bs) n (w ∷ ws) ≡ span (b ∷ bs) n ws
inner_span w ws closed opened b bs n = turned (b ∷ bs) (b ∷ bs) n n w ws (inside b bs w (no_close (b ∷ bs) w closed)) (still (b ∷ bs) w closed opened) (not_counted b bs w n)

open_span : (w : Word) (ws : List Word) (b : Bracket) → closed_by w ≡ None → opened_by w ≡ Some b → is_mark (codes ";") w ≡ false → is_mark (codes ",") w ≡ false
    → (bs : List Bracket) (n : ℕ) → span bs n (w ∷ ws) ≡ span (b ∷ bs) n ws
open_span w ws b closed opened semicolon comma bs n = turned bs (b ∷ bs) n n w ws (no_end bs w closed semicolon) (one_more bs b w closed opened) (no_comma bs w n comma)

own_close : (w : Word) (b c : Bracket) (bs : List Bracket) → closed_by w ≡ Some b → is_innermost b (c ∷ []) ≡ true → closes_outer (c ∷ bs) w ≡ false
unfolding closes_outer
own_close w b c bs closed own = rw (closed, own) refl

other_close : (w : Word) (b c : Bracket) (bs : List Bracket) → closed_by w ≡ Some b → is_innermost b (c ∷ []) ≡ false → closes_outer (c ∷ bs) w ≡ true
unfolding closes_outer
other_close w b c bs closed own = rw (closed, own) refl

close_span : (w : Word) (ws : List Word) (b c : Bracket) → closed_by w ≡ Some b → is_innermost b (c ∷ []) ≡ true
    → (bs : List Bracket) (n : ℕ) → span (c ∷ bs) n (w ∷ ws) ≡ span bs n ws
close_span w ws b c closed own bs n = turned (c ∷ bs) bs n n w ws (inside c bs w (own_close w b c bs closed own)) (one_less (c ∷ bs) b w closed) (not_counted c bs w n)

closes_ends : (bs : List Bracket) (w : Word) → closes_outer bs w ≡ true → ends_argument false bs w ≡ true
unfolding ends_argument
closes_ends bs w closes = rw closes refl

other_span : (w : Word) (ws : List Word) (b c : Bracket) → closed_by w ≡ Some b → is_innermost b (c ∷ []) ≡ false
    → (bs : List Bracket) (n : ℕ) → span (c ∷ bs) n (w ∷ ws) ≡ span_at n (c ∷ bs) (w ∷ ws)
other_span w ws b c closed own bs n = ends_one (c ∷ bs) n w ws (closes_ends (c ∷ bs) w (other_close w b c bs closed own))

last_close : (w : Word) (b : Bracket) → closed_by w ≡ Some b → closes_outer [] w ≡ true
unfolding closes_outer
last_close w b closed = rw closed refl

last_semicolon : (w : Word) → closed_by w ≡ None → is_mark (codes ";") w ≡ true → ends_argument false [] w ≡ true
unfolding ends_argument
last_semicolon w closed is = rw (no_close [] w closed, is) refl

comma_span : (w : Word) (ws : List Word) (n : ℕ) → closed_by w ≡ None → is_mark (codes ";") w ≡ false → is_mark (codes ",") w ≡ true → span [] n (w ∷ ws) ≡ span [] (n + 1) ws
comma_span w ws n closed semicolon is = turned [] [] n (n + 1) w ws (no_end [] w closed semicolon) (still [] w closed (comma_opens w is)) (ap (λ b. n + (if b then 1 else 0)) is)

-- ---- how many commas there may be

one_passed : (n : ℕ) (ws : List Word) → CanCount n ws → CanCount n (drop 1 ws)
one_passed n [] few = few
one_passed n (w ∷ ws) few = omega (arith, few)

first_passed : (n : ℕ) (ws : List Word) (w : Word) → ws ≡ w ∷ drop 1 ws → n ≡ 0 → length ws ≤ 18446744073709551615 → CanCount n (drop 1 ws)
first_passed n ws w here none few = omega (arith, ap length here, none, few)

one_counted : (n : ℕ) (ws : List Word) (w : Word) → ws ≡ w ∷ drop 1 ws → CanCount n ws → CanCount (n + 1) (drop 1 ws)
one_counted n ws w here few = omega (arith, ap length here, few)

-- ---- all brackets that are open

above_more : (os : List Open) (o : Open) → above (os ++ o ∷ []) ≡ o.bracket ∷ above os
above_more os o = ap reverse (map-append (λ (x : Open). x.bracket) os (o ∷ [])) ∙ reverse-append (map (λ (x : Open). x.bracket) os) (o.bracket ∷ [])

module _ (all : List Word) where
  goes_to : (list : Option Pending) (bs cs : List Bracket) (ws : List Word) → ((n : ℕ) → span bs n ws ≡ span cs n (drop 1 ws)) → GoesOn all list bs ws → GoesOn all list cs (drop 1 ws)
  goes_to None bs cs ws step on = tt
  goes_to (Some p) bs cs ws step on = (on.0, one_passed p.commas ws on.1, on.2 ∙ step p.commas)

  all_same : (os : List Open) (ws : List Word) → ((bs : List Bracket) (n : ℕ) → span bs n ws ≡ span bs n (drop 1 ws)) → Holds all os ws → Holds all os (drop 1 ws)
  all_same [] ws step on = tt
  all_same (o ∷ os) ws step on = (goes_to (pending_in o.list) (above os) (above os) ws (step (above os)) on.0, all_same os ws step on.1)

  all_inner : (os : List Open) (old new : Open) (ws : List Word) → new.bracket ≡ old.bracket
      → ((b : Bracket) (bs : List Bracket) (n : ℕ) → span (b ∷ bs) n ws ≡ span (b ∷ bs) n (drop 1 ws)) → GoesOn all (pending_in new.list) [] (drop 1 ws)
      → Holds all (os ++ old ∷ []) ws → Holds all (os ++ new ∷ []) (drop 1 ws)
  all_inner [] old new ws same step last on = (last, tt)
  all_inner (o ∷ os) old new ws same step last on =
      let before = rw (above_more os old) at on.0 in
      let behind = goes_to (pending_in o.list) (old.bracket ∷ above os) (old.bracket ∷ above os) ws (step old.bracket (above os)) before in
      (rw (above_more os new ∙ ap (λ b. b ∷ above os) same) behind, all_inner os old new ws same step last on.1)

  now_open : (os : List Open) (new : Open) (ws : List Word) → ((bs : List Bracket) (n : ℕ) → span bs n ws ≡ span (new.bracket ∷ bs) n (drop 1 ws)) → GoesOn all (pending_in new.list) [] (drop 1 ws)
      → Holds all os ws → Holds all (os ++ new ∷ []) (drop 1 ws)
  now_open [] new ws step last on = (last, tt)
  now_open (o ∷ os) new ws step last on =
      (rw (above_more os new) (goes_to (pending_in o.list) (above os) (new.bracket ∷ above os) ws (step (above os)) on.0), now_open os new ws step last on.1)

  all_close : (os : List Open) (old : Open) (ws : List Word) → ((bs : List Bracket) (n : ℕ) → span (old.bracket ∷ bs) n ws ≡ span bs n (drop 1 ws))
      → Holds all (os ++ old ∷ []) ws → Holds all os (drop 1 ws)
  all_close [] old ws step on = tt
  all_close (o ∷ os) old ws step on =
      (goes_to (pending_in o.list) (old.bracket ∷ above os) (above os) ws (step (above os)) (rw (above_more os old) at on.0), all_close os old ws step on.1)

  last_goes : (os : List Open) (old : Open) (ws : List Word) → Holds all (os ++ old ∷ []) ws → GoesOn all (pending_in old.list) [] ws
  last_goes [] old ws on = on.0
  last_goes (o ∷ os) old ws on = last_goes os old ws on.1

  ends_at : (list : Option Pending) (bs : List Bracket) (whole : Bool) (ws : List Word) → is_empty bs ≡ whole → ((n : ℕ) → span bs n ws ≡ span_at n bs ws)
      → GoesOn all list bs ws → Ends all list whole ws
  ends_at None bs whole ws closed step on = tt
  ends_at (Some p) bs whole ws closed step on = (on.0, on.1, bs, closed, on.2 ∙ step p.commas)

  all_ended : (os : List Open) (old : Open) (ws : List Word) → ((bs : List Bracket) (n : ℕ) → span (old.bracket ∷ bs) n ws ≡ span_at n (old.bracket ∷ bs) ws)
      → Holds all (os ++ old ∷ []) ws → AllEnd all os ws
  all_ended [] old ws step on = tt
  all_ended (o ∷ os) old ws step on =
      (ends_at (pending_in o.list) (old.bracket ∷ above os) false ws refl (step (above os)) (rw (above_more os old) at on.0), all_ended os old ws step on.1)

-- ---- what each word does

pub no_words : (all : List Word) (os : List Open) (ws : List Word) → ws ≡ [] → Holds all os ws → Holds all os (drop 1 ws)
no_words all os ws none on = rw none (rw none at on)

pub none_open : (all : List Word) (os : List Open) (ws : List Word) → os ≡ [] → Holds all os ws
none_open all os ws none = rw none tt

pub plain : (all : List Word) (os : List Open) (ws : List Word) (w : Word) → ws ≡ w ∷ drop 1 ws → closed_by w ≡ None → is_mark (codes ";") w ≡ false → is_mark (codes ",") w ≡ false
    → opened_by w ≡ None → Holds all os ws → Holds all os (drop 1 ws)
plain all os ws w here closed semicolon comma opened on =
    all_same all os ws (λ bs n. ap (span bs n) here ∙ plain_span w (drop 1 ws) closed opened semicolon comma bs n) on

pub opens : (all : List Word) (os : List Open) (ws : List Word) (w : Word) (b : Bracket) → ws ≡ w ∷ drop 1 ws → closed_by w ≡ None → is_mark (codes ";") w ≡ false
    → is_mark (codes ",") w ≡ false → opened_by w ≡ Some b → Holds all os ws → Holds all (os ++ record { bracket = b; list = None } ∷ []) (drop 1 ws)
opens all os ws w b here closed semicolon comma opened on =
    now_open all os (record { bracket = b; list = None }) ws (λ bs n. ap (span bs n) here ∙ open_span w (drop 1 ws) b closed opened semicolon comma bs n) tt on

pub opens_call : (all : List Word) (os : List Open) (r : Rest) (w : Word) (b : Bracket) (p : Box Pending Global) → r.words ≡ w ∷ drop 1 r.words → closed_by w ≡ None
    → is_mark (codes ";") w ≡ false → is_mark (codes ",") w ≡ false → opened_by w ≡ Some b → p.value ≡ record { list = r; commas = 0 } → IsRest all r.words
    → length r.words ≤ 18446744073709551615 → Holds all os r.words → Holds all (os ++ record { bracket = b; list = Some p } ∷ []) (drop 1 r.words)
opens_call all os r w b p here closed semicolon comma opened is part few on =
    now_open all os (record { bracket = b; list = Some p }) r.words
    (λ bs n. ap (span bs n) here ∙ open_span w (drop 1 r.words) b closed opened semicolon comma bs n) (
      rw (ap (λ (x : Pending). x.list) is) part,
      first_passed p.value.commas r.words w here (ap (λ (x : Pending). x.commas) is) few,
      rw (ap (λ (x : Pending). x.list) is, ap (λ (x : Pending). x.commas) is) refl,
    ) on

pub closes_last : (all : List Word) (os before : List Open) (o : Open) (ws : List Word) (w : Word) (b : Bracket) → ws ≡ w ∷ drop 1 ws → closed_by w ≡ Some b
    → before ≡ os ++ o ∷ [] → Holds all before ws → Ends all (pending_in o.list) true ws
closes_last all os before o ws w b here closed is on =
    ends_at all (pending_in o.list) [] true ws refl
    (λ n. ap (span [] n) here ∙ ends_one [] n w (drop 1 ws) (closes_ends [] w (last_close w b closed)) ∙ ap (span_at n []) (sym here))
    (last_goes all os o ws (rw is at on))

pub closes : (all : List Word) (os before : List Open) (o : Open) (ws : List Word) (w : Word) (b : Bracket) → ws ≡ w ∷ drop 1 ws → closed_by w ≡ Some b
    → before ≡ os ++ o ∷ [] → is_innermost b (o.bracket ∷ []) ≡ true → Holds all before ws → Holds all os (drop 1 ws)
closes all os before o ws w b here closed is own on =
    all_close all os o ws (λ bs n. ap (span (o.bracket ∷ bs) n) here ∙ close_span w (drop 1 ws) b o.bracket closed own bs n) (rw is at on)

pub all_end : (all : List Word) (os before : List Open) (o : Open) (ws : List Word) (w : Word) (b : Bracket) → ws ≡ w ∷ drop 1 ws → closed_by w ≡ Some b
    → before ≡ os ++ o ∷ [] → is_innermost b (o.bracket ∷ []) ≡ false → Holds all before ws → AllEnd all os ws
all_end all os before o ws w b here closed is own on =
    all_ended all os o ws
    (λ bs n. ap (span (o.bracket ∷ bs) n) here ∙ other_span w (drop 1 ws) b o.bracket closed own bs n ∙ ap (span_at n (o.bracket ∷ bs)) (sym here)) (rw is at on)

pub semicolon_last : (all : List Word) (os before : List Open) (o : Open) (ws : List Word) (w : Word) → ws ≡ w ∷ drop 1 ws → closed_by w ≡ None → is_mark (codes ";") w ≡ true
    → before ≡ os ++ o ∷ [] → Holds all before ws → Ends all (pending_in o.list) true ws
semicolon_last all os before o ws w here closed mark is on =
    ends_at all (pending_in o.list) [] true ws refl (λ n. ap (span [] n) here ∙ ends_one [] n w (drop 1 ws) (last_semicolon w closed mark) ∙ ap (span_at n []) (sym here))
    (last_goes all os o ws (rw is at on))

pub semicolon : (all : List Word) (os before : List Open) (o : Open) (ws : List Word) (w : Word) → ws ≡ w ∷ drop 1 ws → closed_by w ≡ None → is_mark (codes ";") w ≡ true
    → before ≡ os ++ o ∷ [] → Holds all before ws → Holds all (os ++ record { bracket = o.bracket; list = None } ∷ []) (drop 1 ws)
semicolon all os before o ws w here closed mark is on =
    all_inner all os o (record { bracket = o.bracket; list = None }) ws refl
    (λ b bs n. ap (span (b ∷ bs) n) here ∙ inner_span w (drop 1 ws) closed (semicolon_opens w mark) b bs n) tt (rw is at on)

counted : (all : List Word) (list : Option Pending) (ws : List Word) (w : Word) → ws ≡ w ∷ drop 1 ws → closed_by w ≡ None → is_mark (codes ";") w ≡ false → is_mark (codes ",") w ≡ true
    → GoesOn all list [] ws → GoesOn all (with_comma list) [] (drop 1 ws)
counted all None ws w here closed other mark on = tt
counted all (Some p) ws w here closed other mark on = (on.0, one_counted p.commas ws w here on.1, on.2 ∙ ap (span [] p.commas) here ∙ comma_span w (drop 1 ws) p.commas closed other mark)

pub comma : (all : List Word) (os before : List Open) (o : Open) (list : Option (Box Pending Global)) (ws : List Word) (w : Word) → ws ≡ w ∷ drop 1 ws → closed_by w ≡ None
    → is_mark (codes ";") w ≡ false → is_mark (codes ",") w ≡ true → before ≡ os ++ o ∷ [] → pending_in list ≡ with_comma (pending_in o.list) → Holds all before ws
    → Holds all (os ++ record { bracket = o.bracket; list = list } ∷ []) (drop 1 ws)
comma all os before o list ws w here closed other mark is more on =
    let held = rw is at on in
    all_inner all os o (record { bracket = o.bracket; list = list }) ws refl
    (λ b bs n. ap (span (b ∷ bs) n) here ∙ inner_span w (drop 1 ws) closed (comma_opens w mark) b bs n)
    (rw more (counted all (pending_in o.list) ws w here closed other mark (last_goes all os o ws held))) held

few_in : (all : List Word) (list : Option Pending) (bs : List Bracket) (ws : List Word) → GoesOn all list bs ws → IfSome list (λ p. p.commas < 18446744073709551615)
few_in all None bs ws on = tt
few_in all (Some p) bs ws on = omega (arith, on.1)

pub few_commas : (all : List Word) (os before : List Open) (o : Open) (ws : List Word) → before ≡ os ++ o ∷ [] → Holds all before ws
    → IfSome (pending_in o.list) (λ p. p.commas < 18446744073709551615)
few_commas all os before o ws is on = few_in all (pending_in o.list) [] ws (last_goes all os o ws (rw is at on))

-- ---- the end

pub over_last : (all : List Word) (os before : List Open) (o : Open) (ws : List Word) → ws ≡ [] → before ≡ os ++ o ∷ [] → Holds all before ws → Ends all (pending_in o.list) true ws
over_last all os before o ws none is on = ends_at all (pending_in o.list) [] true ws refl (λ n. over [] n ws none) (last_goes all os o ws (rw is at on))

pub all_over : (all : List Word) (os before : List Open) (o : Open) (ws : List Word) → ws ≡ [] → before ≡ os ++ o ∷ [] → Holds all before ws → AllEnd all os ws
all_over all os before o ws none is on = all_ended all os o ws (λ bs n. over (o.bracket ∷ bs) n ws none) (rw is at on)

last_of : (all : List Word) (os : List Open) (o : Open) (ws : List Word) → AllEnd all (os ++ o ∷ []) ws → AllEnd all os ws × Ends all (pending_in o.list) false ws
last_of all [] o ws ends = (tt, ends.0)
last_of all (x ∷ os) o ws ends = let further = last_of all os o ws ends.1 in ((ends.0, further.0), further.1)

pub one_less_ends : (all : List Word) (os before : List Open) (o : Open) (ws : List Word) → before ≡ os ++ o ∷ [] → AllEnd all before ws → AllEnd all os ws
one_less_ends all os before o ws is ends = (last_of all os o ws (rw is at ends)).0

pub last_ends : (all : List Word) (os before : List Open) (o : Open) (ws : List Word) → before ≡ os ++ o ∷ [] → AllEnd all before ws → Ends all (pending_in o.list) false ws
last_ends all os before o ws is ends = (last_of all os o ws (rw is at ends)).1

pub fewer : (os before : List Open) (o : Open) → before ≡ os ++ o ∷ [] → length os < length before
fewer os before o is = omega (arith, ap length is, length-append os (o ∷ []))

take_none : (k : ℕ) → take {A = Open} k [] ≡ []
take_none zero = refl
take_none (suc k) = refl

pub nothing_popped : (os rest : List Open) (k : ℕ) → k ≡ length os → k ≡ 0 → rest ≡ take (k - 1) os → rest ≡ []
nothing_popped [] rest k many none is = is ∙ take_none (k - 1)
nothing_popped (o ∷ os) rest k many none is = let never : ⊥ = omega (arith, many, none) in absurd never

pub none_left : (os rest : List Open) → length os ≡ 0 → os ≡ rest ++ [] → rest ≡ []
none_left [] rest none is = sym (is ∙ append-nil rest)
none_left (o ∷ os) rest none is = let never : ⊥ = omega (arith, none) in absurd never

-- ---- what is noted

abbrev Noted : Type 0
Noted = Arguments Rest

abbrev pub Known : List Word → List (ℕ × Noted) → Type 0
Known all es = (at : ℕ) (list : Noted) → lookup (nat_eq at) es ≡ Some list → IsNote all at list

pub none_noted : (all : List Word) (es : List (ℕ × Noted)) → es ≡ [] → (at : ℕ) (list : Noted) → lookup (nat_eq at) es ≡ Some list → IsNote all at list
none_noted all es none at list found = let never : None ≡ Some list = sym (ap (lookup (nat_eq at)) none) ∙ found in cc

pub same_noted : (all : List Word) (old new : List (ℕ × Noted)) → Known all old → new ≡ old → (at : ℕ) (list : Noted) → lookup (nat_eq at) new ≡ Some list → IsNote all at list
same_noted all old new known same at list found = known at list (sym (ap (lookup (nat_eq at)) same) ∙ found)

pub noted : (all ws : List Word) (w : Word) (es : List (ℕ × Noted)) (list : Noted) → Known all es
    → IsRest all ws → ws ≡ w ∷ drop 1 ws → lookup (nat_eq w.at) es ≡ Some list → extent (drop 1 ws) ≡ extent_of list
noted all ws w es list known part here found = known w.at list found ws w part here refl

pub found : (all ws : List Word) (w : Word) (es : List (ℕ × Noted)) (r : Option (Bor Noted)) → Known all es → IsRest all ws → ws ≡ w ∷ drop 1 ws
    → option_copied r ≡ lookup (nat_eq w.at) es → IfSome r (λ l. extent_of l.now ≡ extent (drop 1 ws))
found all ws w es None known part here is = tt
found all ws w es (Some l) known part here is = sym (noted all ws w es l.now known part here (sym is))

is_noted : (all : List Word) (p : Pending) (v : Word) (list : Noted) (whole : Bool) (behind : List Word) → Ascends all → Ends all (Some p) whole behind → p.list.words ≡ v ∷ drop 1 p.list.words
    → ((left : List Bracket) → is_empty left ≡ whole → extent_of list ≡ extent_from (drop 1 p.list.words) (span_at p.commas left behind)) → IsNote all v.at list
is_noted all p v list whole behind sorted ends here given ws w part there same =
    ap (λ xs. extent (drop 1 xs)) (same_rest all ws p.list.words w v sorted part ends.0 there here same)
    ∙ from_span (drop 1 p.list.words) (span_at p.commas ends.2 behind) ends.4 ∙ sym (given ends.2 ends.3)

one_or : (b : Bool) (all : List Word) (at : ℕ) (mine list : Noted) (other : Option Noted) → (b ≡ true → IsNote all at mine) → (other ≡ Some list → IsNote all at list)
    → cond b (Some mine) other ≡ Some list → IsNote all at list
one_or true all at mine list other here there found = let same : mine ≡ list = cc in rw (sym same) (here refl)
one_or false all at mine list other here there found = there found

pub one_noted : (all : List Word) (old new : List (ℕ × Noted)) (p : Pending) (v : Word) (note : Noted) (whole : Bool) (behind : List Word) → Ascends all → Known all old
    → Ends all (Some p) whole behind → p.list.words ≡ v ∷ drop 1 p.list.words
    → ((left : List Bracket) → is_empty left ≡ whole → extent_of note ≡ extent_from (drop 1 p.list.words) (span_at p.commas left behind))
    → ((at : ℕ) → lookup (nat_eq at) new ≡ cond (nat_eq v.at at) (Some note) (lookup (nat_eq at) old)) → (at : ℕ) (list : Noted) → lookup (nat_eq at) new ≡ Some list → IsNote all at list
one_noted all old new p v note whole behind sorted known ends here given updates at list found =
    one_or (nat_eq v.at at) all at note list (lookup (nat_eq at) old) (λ same. rw (sym (eqb-true v.at at same)) (is_noted all p v note whole behind sorted ends here given)) (known at list)
    (sym (updates at) ∙ found)

-- ---- the words behind

pub dropped : (n : ℕ) (ws : List Word) → IsRest ws (drop n ws)
dropped zero ws = itself ws
dropped (suc n) [] = itself []
dropped (suc n) (w ∷ ws) = of_rest (w ∷ ws) ws (drop n ws) (behind_first (w ∷ ws)) (dropped n ws)

pub behind_part : (all ws : List Word) (e : Extent) → IsRest all ws → e ≡ extent (drop 1 ws) → IsRest all e.behind
unfolding extent
behind_part all ws e part is =
    rw is (of_rest all ws _ part (of_rest ws (drop 1 ws) _ (behind_first ws) (dropped _ (drop 1 ws))))
