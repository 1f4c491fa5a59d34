-- The pruned text has the selectors that stay: the rules that are read of it, and the places of their selectors.
use Rattle.std.proofs.Common.{◌≡◌, ℕ, zero, suc, ◌+◌, ◌-◌, ◌≤◌, ◌&&◌, not, Bool, true, false, List, [], ◌∷◌, ◌++◌, length, drop, map, get_or, slice_range, refl, sym, ap, ◌∙◌, subst, arith, length-append, append_assoc, append-nil}
use Rattle.std.specs.List.{list_all}
use Rattle.std.proofs.lemmas.Bool.{and_parts, not-true}
use Rattle.std.proofs.lemmas.List.{length-take}
use Rattle.css_read.specs.declared.fronts.Front.{Front}
use Rattle.css_read.specs.declared.fronts.Front.TheVariants.{Passed, Opens, Closes, Styles}
use Rattle.css_read.specs.declared.sheets.Range.{Range}
use Rattle.css_read.specs.Effects.{fixed_rules, stayed_in, number_left}
use Rattle.css_read.specs.Pieces.{pieces}
use Rattle.css_read.specs.Pruned.{Flagged, goes, with_flags, of_rule, is_fixed, gone_rules}
use Rattle.css_read.specs.Reading.{pieces_of}
use Rattle.css_read.specs.Rules.{Rule, rules_at}
use Rattle.css_read.specs.Sheets.{Item}
use Rattle.css_read.proofs.GoneRules.{goes_by, gone_by}
use Rattle.css_read.proofs.ItemLemmas.{ranges_of}
use Rattle.css_read.proofs.PartLemmas.{joined, places}
use Rattle.css_read.proofs.PlanLemmas.{Plan, keep, drop_rule, drop_block, relist, fates_of, going_after, IsPlan, ArePlans}
use Rattle.css_read.proofs.PrunedLemmas.{AreByFlags}
use Rattle.css_read.proofs.RelistLemmas.{HasTexts, text_of}
use Rattle.css_read.proofs.RuleOrder.{AreRulesApart}
use Rattle.css_read.proofs.RulePlans.{texts_left, slice_at}
use Rattle.css_read.proofs.ScopeLemmas.{Stands, stands_next}
use Rattle.css_read.proofs.ShiftLemmas.{HaveBytes, same_list, AreWithin, own_within, item_text, parts_have}
use Rattle.css_read.proofs.SpanLemmas.{Span, bytes_of, bytes-append, IsRuleBehind, left_of, steps_at, rules_in}
use Rattle.css_read.proofs.StayLemmas.{AreGroups, unflagged, stayed-append, fixed_stay, free_stay, none_stay, texts_are, within_stay, of_stay, HasFrom, has_next, has_at, if_stays, number_next, AreNumbered, numbered}
use Rattle.css_read.proofs.UnitLemmas.{flat}

-- ---- rules of another text with the selectors of a text

-- the rules have numbers from one on, and the selectors have their bytes at the places there
abbrev pub AreReread : List ℕ → List ℕ → List Bool → ℕ → List Rule → List Item → Type 0
AreReread text other gone j [] items = items ≡ []
AreReread text other gone j (r ∷ rs) items =
    (own : List Item) × (others : List Item) × (items ≡ own ++ others) × HaveBytes text other own (pieces_of other r) × AreNumbered gone j own × AreReread text other gone (j + 1) rs others

-- ---- sizes

-- the list of each rule is within it
abbrev IsSized : ℕ → Front → Type 0
IsSized n (Styles len) = len ≤ n
IsSized n f = Unit {0}

abbrev pub AreSized : List Span → Type 0
AreSized [] = Unit {0}
AreSized (s ∷ ss) = IsSized (length s.bytes) s.front × AreSized ss

sized_by : (from to at : ℕ) (f : Front) (bytes : List ℕ) (ss : List Span) → AreRulesApart from to (rules_in (steps_at at ((record { front = f; bytes = bytes }) ∷ ss)))
    → ((from : ℕ) → AreRulesApart from to (rules_in (steps_at (at + length bytes) ss)) → AreSized ss) → AreSized ((record { front = f; bytes = bytes }) ∷ ss)
sized_by from to at Passed bytes ss apart later = (tt, later from apart)
sized_by from to at Opens bytes ss apart later = (tt, later from apart)
sized_by from to at Closes bytes ss apart later = (tt, later from apart)
sized_by from to at (Styles len) bytes ss apart later = (omega (arith, apart.2), later (at + length bytes) apart.3)

pub sized_of : (from to at : ℕ) (ss : List Span) → AreRulesApart from to (rules_in (steps_at at ss)) → AreSized ss
sized_of from to at [] apart = tt
sized_of from to at (s ∷ ss) apart = sized_by from to at s.front s.bytes ss apart (λ first later. sized_of first to (at + length s.bytes) ss later)

-- ---- rules behind white space and comments

passed_rules : (f : Front) (from to : ℕ) (rs : List Rule) → f ≡ Passed → rules_at f from to ++ rs ≡ rs
passed_rules f from to rs is = rw is refl

behind_rules : (at e : ℕ) (gaps : List Span) (rule : Span) (left : List Span) → e ≡ at + length (bytes_of gaps) → IsRuleBehind (gaps ++ rule ∷ [])
    → rules_in (steps_at at ((gaps ++ rule ∷ []) ++ left)) ≡ rules_at rule.front e (e + length rule.bytes) ++ rules_in (steps_at (e + length rule.bytes) left)
behind_rules at e [] rule left end is = let same : e ≡ at = omega arith in rw same refl
behind_rules at e (g ∷ []) rule left end is =
    let same : e ≡ at + length g.bytes = omega (arith, length-append g.bytes []) in
    passed_rules g.front at (at + length g.bytes) (rules_in (steps_at (at + length g.bytes) (rule ∷ left))) is.0 ∙ rw same refl
behind_rules at e (g ∷ h ∷ gaps) rule left end is =
    let same : e ≡ at + length g.bytes + length (bytes_of (h ∷ gaps)) = omega (arith, length-append g.bytes (bytes_of (h ∷ gaps))) in
    passed_rules g.front at (at + length g.bytes) (rules_in (steps_at (at + length g.bytes) ((h ∷ gaps ++ rule ∷ []) ++ left))) is.0 ∙ behind_rules (at + length g.bytes) e (h ∷ gaps) rule left same is.1

-- ---- what becomes of the rules

abbrev pub ruled : List ℕ → List Flagged → ℕ → ℕ → List Span → List Bool
ruled text fs k at ss = gone_rules text k (ranges_of (rules_in (steps_at at ss))) fs

abbrev pub fixed_from : List ℕ → List Flagged → ℕ → ℕ → List Span → List Bool
fixed_from text fs k at ss = fixed_rules text k (ranges_of (rules_in (steps_at at ss))) fs

abbrev pub rest_of : ℕ → List Plan → List Span → List Span
rest_of m ps ss = left_of (fates_of m ps ss) ss

-- at a place of the text: the number of the next rule, how many blocks go, the number that it has if it stays, and the place in the other text
pub record IsAt (text other : List ℕ) (fs : List Flagged) (fixed gone : List Bool) (at : ℕ) (ps : List Plan) (ss : List Span) (k m j later : ℕ) (gs : List Flagged) : Type 0 where
  pub flags : AreByFlags text fs k at ps ss
  pub there : Stands other later (rest_of m ps ss)
  pub groups : AreGroups text fs k (rules_in (steps_at at ss)) gs
  pub fixes : HasFrom fixed k (fixed_from text fs k at ss)
  pub goes_from : HasFrom gone k (gone_by m ps ss)
  pub number : number_left gone k ≡ j
  pub rules : ruled text fs k at ss ≡ gone_by m ps ss

abbrev pub RereadFrom : List ℕ → List ℕ → List Flagged → List Bool → List Bool → ℕ → List Plan → List Span → Type 0
RereadFrom text other fs fixed gone at ps ss =
    (k m j later : ℕ) (gs : List Flagged) → IsAt text other fs fixed gone at ps ss k m j later gs → AreReread text other gone j (rules_in (steps_at later (rest_of m ps ss))) (stayed_in fixed gs)

first_same : (g h : Bool) (gs hs : List Bool) → g ∷ gs ≡ h ∷ hs → g ≡ h
first_same g h gs hs same = cc

others_same : (g h : Bool) (gs hs : List Bool) → g ∷ gs ≡ h ∷ hs → gs ≡ hs
others_same g h gs hs same = cc

-- ---- a rule

-- behind it
style_next : (text other : List ℕ) (fs : List Flagged) (fixed gone : List Bool) (at : ℕ) (p : Plan) (len : ℕ) (bytes : List ℕ) (ps : List Plan) (ss : List Span) (k m j later : ℕ) (gs : List Flagged)
    → (is : IsAt text other fs fixed gone at (p ∷ ps) ((record { front = Styles len; bytes = bytes }) ∷ ss) k m j later gs) → (next number behind : ℕ) → going_after m p (Styles len) ≡ next → j + if_stays (goes_by m p) ≡ number → Stands other behind (rest_of next ps ss)
    → IsAt text other fs fixed gone (at + length bytes) ps ss (k + 1) next number behind is.groups.1
unfolding gone_rules
style_next text other fs fixed gone at p len bytes ps ss k m j later gs is next number behind same end there = record {
  flags = is.flags.1;
  there = there;
  groups = is.groups.4;
  fixes = has_next fixed k _ _ is.fixes;
  goes_from = subst (λ (n : ℕ). HasFrom gone (k + 1) (gone_by n ps ss)) same (has_next gone k (goes_by m p) _ is.goes_from);
  number = number_next gone k j (goes_by m p) _ is.goes_from is.number ∙ end;
  rules = others_same _ _ _ _ is.rules ∙ ap (λ n. gone_by n ps ss) same;
}

fixed_here : (text other : List ℕ) (fs : List Flagged) (fixed gone : List Bool) (at : ℕ) (p : Plan) (len : ℕ) (bytes : List ℕ) (ps : List Plan) (ss : List Span) (k m j later : ℕ) (gs : List Flagged)
    → IsAt text other fs fixed gone at (p ∷ ps) ((record { front = Styles len; bytes = bytes }) ∷ ss) k m j later gs → get_or fixed k false ≡ is_fixed text k (record { from = at; to = at + length bytes }) (of_rule k fs)
fixed_here text other fs fixed gone at p len bytes ps ss k m j later gs is = has_at fixed k _ _ false is.fixes

-- it goes
rule_goes : (text other : List ℕ) (fs : List Flagged) (fixed gone : List Bool) (at : ℕ) (p : Plan) (len : ℕ) (bytes : List ℕ) (ps : List Plan) (ss : List Span) (k m j later : ℕ) (gs : List Flagged) (rs : List Rule)
    → (is : IsAt text other fs fixed gone at (p ∷ ps) ((record { front = Styles len; bytes = bytes }) ∷ ss) k m j later gs) → is_fixed text k (record { from = at; to = at + length bytes }) (of_rule k fs) ≡ false → list_all goes (of_rule k fs) ≡ true
    → AreReread text other gone j rs (stayed_in fixed is.groups.1) → AreReread text other gone j rs (stayed_in fixed gs)
rule_goes text other fs fixed gone at p len bytes ps ss k m j later gs rs is free all behind =
    let o = is.groups.0 in
    let others = is.groups.1 in
    let none : stayed_in fixed (of_rule k fs) ≡ [] =
    ap (stayed_in fixed) o.list ∙ free_stay fixed k o.own o.flags is.groups.3 (fixed_here text other fs fixed gone at p len bytes ps ss k m j later gs is ∙ free) ∙ none_stay (with_flags o.own o.flags) (ap (list_all goes) (sym o.list) ∙ all)
    in
    let same : stayed_in fixed gs ≡ stayed_in fixed others = ap (stayed_in fixed) is.groups.2 ∙ stayed-append fixed (of_rule k fs) others ∙ ap (λ (items : List Item). items ++ stayed_in fixed others) none in
    subst (AreReread text other gone j rs) (sym same) behind

-- it stays as it is
rule_keeps : (text other : List ℕ) (fs : List Flagged) (fixed gone : List Bool) (at len : ℕ) (bytes : List ℕ) (ps : List Plan) (ss : List Span) (k j later : ℕ) (gs : List Flagged) (rs : List Rule) → Stands text at ((record { front = Styles len; bytes = bytes }) ∷ ss) → len ≤ length bytes
    → (is : IsAt text other fs fixed gone at (keep ∷ ps) ((record { front = Styles len; bytes = bytes }) ∷ ss) k 0 j later gs) → AreReread text other gone (j + 1) rs (stayed_in fixed is.groups.1)
    → AreReread text other gone j ((record { from = later; brace = later + len; to = later + length bytes }) ∷ rs) (stayed_in fixed gs)
rule_keeps text other fs fixed gone at len bytes ps ss k j later gs rs stands few is behind =
    let o = is.groups.0 in
    let others = is.groups.1 in
    let all : stayed_in fixed (of_rule k fs) ≡ o.own =
    ap (stayed_in fixed) o.list ∙ fixed_stay fixed k o.own o.flags is.groups.3 o.count (fixed_here text other fs fixed gone at keep len bytes ps ss k 0 j later gs is ∙ is.flags.0)
    in
    let same : stayed_in fixed gs ≡ o.own ++ stayed_in fixed others = ap (stayed_in fixed) is.groups.2 ∙ stayed-append fixed (of_rule k fs) others ∙ ap (λ (items : List Item). items ++ stayed_in fixed others) all in (
      o.own,
      stayed_in fixed others,
      same,
      same_list text other stands.pre is.there.pre bytes (bytes_of ss) (bytes_of (rest_of 0 ps ss)) at later len o.own stands.whole is.there.whole stands.before is.there.before few o.places,
      numbered gone k j o.own is.groups.3 is.number (has_at gone k false _ true is.goes_from),
      behind,
    )

-- other spans in its place
record IsReplaced (other : List ℕ) (later : ℕ) (ts rest : List Span) (list block : List ℕ) : Type 0 where
  pre : List ℕ
  from : ℕ
  whole : other ≡ pre ++ (list ++ (123 ∷ block ++ bytes_of rest))
  before : length pre ≡ from
  rules : rules_in (steps_at later (ts ++ rest)) ≡ (record { from = from; brace = from + length list; to = from + length (list ++ 123 ∷ block) }) ∷ rules_in (steps_at (from + length (list ++ 123 ∷ block)) rest)
  behind : Stands other (from + length (list ++ 123 ∷ block)) rest

replaced : (other : List ℕ) (later : ℕ) (s : Span) (ts rest : List Span) (texts : List (List ℕ)) → IsRuleBehind ts → (has : HasTexts s ts texts) → Stands other later (ts ++ rest) → IsReplaced other later ts rest (flat (joined has.first has.others)) has.block
replaced other later s ts rest texts behind has stands =
    let list = flat (joined has.first has.others) in
    let bytes = list ++ 123 ∷ has.block in
    let rule : Span = record { front = Styles (length list); bytes = bytes } in
    let gap = bytes_of has.gaps in
    let from = later + length gap in
    let spans : bytes_of ts ≡ gap ++ bytes = ap bytes_of has.whole ∙ bytes-append has.gaps (rule ∷ []) ∙ ap (λ bs. gap ++ bs) (append-nil bytes) in
    let all : other ≡ stands.pre ++ ((gap ++ bytes) ++ bytes_of rest) = stands.whole ∙ ap (λ bs. stands.pre ++ bs) (bytes-append ts rest ∙ ap (λ bs. bs ++ bytes_of rest) spans) in
    let first : other ≡ (stands.pre ++ gap) ++ (bytes ++ bytes_of rest) = all ∙ ap (λ bs. stands.pre ++ bs) (append_assoc gap bytes (bytes_of rest)) ∙ sym (append_assoc stands.pre gap (bytes ++ bytes_of rest)) in
    let size : length (stands.pre ++ gap) ≡ from = length-append stands.pre gap ∙ ap (λ n. n + length gap) stands.before in
    record {
      pre = stands.pre ++ gap;
      from = from;
      whole = first ∙ ap (λ bs. (stands.pre ++ gap) ++ bs) (append_assoc list (123 ∷ has.block) (bytes_of rest));
      before = size;
      rules = ap (λ (us : List Span). rules_in (steps_at later (us ++ rest))) has.whole ∙ behind_rules later from has.gaps rule rest refl (subst IsRuleBehind has.whole behind);
      behind = record {
        pre = (stands.pre ++ gap) ++ bytes;
        whole = first ∙ sym (append_assoc (stands.pre ++ gap) bytes (bytes_of rest));
        before = length-append (stands.pre ++ gap) bytes ∙ ap (λ n. n + length bytes) size;
      };
    }

text_within : (text : List ℕ) (at len : ℕ) (bytes : List ℕ) (ss : List Span) → Stands text at ((record { front = Styles len; bytes = bytes }) ∷ ss) → len ≤ length bytes → at + len ≤ length text
text_within text at len bytes ss stands few =
    let size = ap length stands.whole ∙ length-append stands.pre (bytes ++ bytes_of ss) in
    let inner = length-append bytes (bytes_of ss) in
    omega (arith, stands.before)

-- it stays with the selectors that aren't flagged
rule_relists : (text other : List ℕ) (fs : List Flagged) (fixed gone : List Bool) (at len : ℕ) (bytes : List ℕ) (cuts : List Range) (ts : List Span) (ps : List Plan) (ss : List Span) (k j later : ℕ) (gs : List Flagged) → Stands text at ((record { front = Styles len; bytes = bytes }) ∷ ss) → len ≤ length bytes
    → (is : IsAt text other fs fixed gone at (relist cuts ts ∷ ps) ((record { front = Styles len; bytes = bytes }) ∷ ss) k 0 j later gs)
    → ((behind : ℕ) → Stands other behind (rest_of 0 ps ss) → AreReread text other gone (j + 1) (rules_in (steps_at behind (rest_of 0 ps ss))) (stayed_in fixed is.groups.1))
    → AreReread text other gone j (rules_in (steps_at later (ts ++ rest_of 0 ps ss))) (stayed_in fixed gs)
rule_relists text other fs fixed gone at len bytes cuts ts ps ss k j later gs stands few is next =
    let o = is.groups.0 in
    let others = is.groups.1 in
    let rest = rest_of 0 ps ss in
    let has = is.flags.0.2 in
    let list = flat (joined has.first has.others) in
    let own = unflagged (with_flags o.own o.flags) in
    let new = replaced other later (record { front = Styles len; bytes = bytes }) ts rest (texts_left text (of_rule k fs)) is.flags.0.1 has is.there in
    let free : stayed_in fixed (of_rule k fs) ≡ own = ap (stayed_in fixed) o.list ∙ free_stay fixed k o.own o.flags is.groups.3 (fixed_here text other fs fixed gone at (relist cuts ts) len bytes ps ss k 0 j later gs is ∙ is.flags.0.0) in
    let same : stayed_in fixed gs ≡ own ++ stayed_in fixed others = ap (stayed_in fixed) is.groups.2 ∙ stayed-append fixed (of_rule k fs) others ∙ ap (λ (items : List Item). items ++ stayed_in fixed others) free in
    let count = length-take (at + len - at) (drop at text) in
    let within : AreWithin text own = within_stay text o.own o.flags (own_within text (slice_range text at (at + len)) (at + len) o.own o.places (omega arith) (text_within text at len bytes ss stands few)) in
    let texts : map (item_text text) own ≡ map text_of (has.first ∷ has.others) = sym (texts_are text (with_flags o.own o.flags)) ∙ ap (texts_left text) (sym o.list) ∙ sym has.texts_are in
    let z = 123 ∷ has.block ++ bytes_of rest in
    let slice : slice_range other new.from (new.from + length list) ≡ list = ap (λ bs. slice_range bs new.from (new.from + length list)) new.whole ∙ slice_at new.pre list z new.from (new.from + length list) new.before refl in
    let places_are : pieces (new.from + length list) (slice_range other new.from (new.from + length list)) ≡ places (new.from + length list) has.first has.others = ap (pieces (new.from + length list)) slice ∙ has.places_are (new.from + length list) in
    let there : HaveBytes text other own (places (new.from + length list) has.first has.others) =
    subst (λ (bs : List ℕ). HaveBytes text bs own (places (new.from + length list) has.first has.others)) (sym new.whole) (parts_have text new.pre z new.from has.first has.others own new.before texts within)
    in
    subst (λ (rs : List Rule). AreReread text other gone j rs (stayed_in fixed gs)) (sym new.rules) (
      own,
      stayed_in fixed others,
      same,
      subst (HaveBytes text other own) (sym places_are) there,
      numbered gone k j own (of_stay k o.own o.flags is.groups.3) is.number (has_at gone k false _ true is.goes_from),
      next (new.from + length (list ++ 123 ∷ has.block)) new.behind,
    )

-- ---- all spans

-- where no block goes
top_reread : (text other : List ℕ) (fs : List Flagged) (fixed gone : List Bool) (at : ℕ) (p : Plan) (f : Front) (bytes : List ℕ) (ps : List Plan) (ss : List Span) → IsPlan at (at + length bytes) (record { front = f; bytes = bytes }) p
    → Stands text at ((record { front = f; bytes = bytes }) ∷ ss) → IsSized (length bytes) f → RereadFrom text other fs fixed gone (at + length bytes) ps ss
    → (k j later : ℕ) (gs : List Flagged) → IsAt text other fs fixed gone at (p ∷ ps) ((record { front = f; bytes = bytes }) ∷ ss) k 0 j later gs
    → AreReread text other gone j (rules_in (steps_at later (rest_of 0 (p ∷ ps) ((record { front = f; bytes = bytes }) ∷ ss)))) (stayed_in fixed gs)
top_reread text other fs fixed gone at keep Passed bytes ps ss plan stands few next k j later gs is =
    next k 0 j (later + length bytes) gs (record { flags = is.flags.1; there = stands_next other later (record { front = Passed; bytes = bytes }) (rest_of 0 ps ss) is.there; groups = is.groups; fixes = is.fixes; goes_from = is.goes_from; number = is.number; rules = is.rules })
top_reread text other fs fixed gone at keep Opens bytes ps ss plan stands few next k j later gs is =
    next k 0 j (later + length bytes) gs (record { flags = is.flags.1; there = stands_next other later (record { front = Opens; bytes = bytes }) (rest_of 0 ps ss) is.there; groups = is.groups; fixes = is.fixes; goes_from = is.goes_from; number = is.number; rules = is.rules })
top_reread text other fs fixed gone at keep Closes bytes ps ss plan stands few next k j later gs is =
    next k 0 j (later + length bytes) gs (record { flags = is.flags.1; there = stands_next other later (record { front = Closes; bytes = bytes }) (rest_of 0 ps ss) is.there; groups = is.groups; fixes = is.fixes; goes_from = is.goes_from; number = is.number; rules = is.rules })
top_reread text other fs fixed gone at keep (Styles len) bytes ps ss plan stands few next k j later gs is =
    let there = stands_next other later (record { front = Styles len; bytes = bytes }) (rest_of 0 ps ss) is.there in
    rule_keeps text other fs fixed gone at len bytes ps ss k j later gs (rules_in (steps_at (later + length bytes) (rest_of 0 ps ss))) stands few is
    (next (k + 1) 0 (j + 1) (later + length bytes) is.groups.1 (style_next text other fs fixed gone at keep len bytes ps ss k 0 j later gs is 0 (j + 1) (later + length bytes) refl refl there))
top_reread text other fs fixed gone at drop_rule (Styles len) bytes ps ss plan stands few next k j later gs is =
    rule_goes text other fs fixed gone at drop_rule len bytes ps ss k 0 j later gs (rules_in (steps_at later (rest_of 0 ps ss))) is is.flags.0.0 is.flags.0.1
    (next (k + 1) 0 j later is.groups.1 (style_next text other fs fixed gone at drop_rule len bytes ps ss k 0 j later gs is 0 j later refl (omega arith) is.there))
top_reread text other fs fixed gone at drop_rule Passed bytes ps ss plan stands few next k j later gs is = absurd plan
top_reread text other fs fixed gone at drop_rule Opens bytes ps ss plan stands few next k j later gs is = absurd plan
top_reread text other fs fixed gone at drop_rule Closes bytes ps ss plan stands few next k j later gs is = absurd plan
top_reread text other fs fixed gone at drop_block Opens bytes ps ss plan stands few next k j later gs is =
    next k 1 j later gs (record { flags = is.flags.1; there = is.there; groups = is.groups; fixes = is.fixes; goes_from = is.goes_from; number = is.number; rules = is.rules })
top_reread text other fs fixed gone at drop_block Passed bytes ps ss plan stands few next k j later gs is = absurd plan
top_reread text other fs fixed gone at drop_block Closes bytes ps ss plan stands few next k j later gs is = absurd plan
top_reread text other fs fixed gone at drop_block (Styles len) bytes ps ss plan stands few next k j later gs is = absurd plan
top_reread text other fs fixed gone at (relist cuts ts) (Styles len) bytes ps ss plan stands few next k j later gs is =
    rule_relists text other fs fixed gone at len bytes cuts ts ps ss k j later gs stands few is
    (λ behind there. next (k + 1) 0 (j + 1) behind is.groups.1 (style_next text other fs fixed gone at (relist cuts ts) len bytes ps ss k 0 j later gs is 0 (j + 1) behind refl refl there))
top_reread text other fs fixed gone at (relist cuts ts) Passed bytes ps ss plan stands few next k j later gs is = absurd plan.0
top_reread text other fs fixed gone at (relist cuts ts) Opens bytes ps ss plan stands few next k j later gs is = absurd plan.0
top_reread text other fs fixed gone at (relist cuts ts) Closes bytes ps ss plan stands few next k j later gs is = absurd plan.0

-- in a block that goes
going_reread : (text other : List ℕ) (fs : List Flagged) (fixed gone : List Bool) (at : ℕ) (p : Plan) (f : Front) (bytes : List ℕ) (ps : List Plan) (ss : List Span) → RereadFrom text other fs fixed gone (at + length bytes) ps ss
    → (k m j later : ℕ) (gs : List Flagged) → IsAt text other fs fixed gone at (p ∷ ps) ((record { front = f; bytes = bytes }) ∷ ss) k (suc m) j later gs
    → AreReread text other gone j (rules_in (steps_at later (rest_of (suc m) (p ∷ ps) ((record { front = f; bytes = bytes }) ∷ ss)))) (stayed_in fixed gs)
unfolding gone_rules
going_reread text other fs fixed gone at p Passed bytes ps ss next k m j later gs is =
    next k (suc m) j later gs (record { flags = is.flags.1; there = is.there; groups = is.groups; fixes = is.fixes; goes_from = is.goes_from; number = is.number; rules = is.rules })
going_reread text other fs fixed gone at p Opens bytes ps ss next k m j later gs is =
    next k (suc (suc m)) j later gs (record { flags = is.flags.1; there = is.there; groups = is.groups; fixes = is.fixes; goes_from = is.goes_from; number = is.number; rules = is.rules })
going_reread text other fs fixed gone at p Closes bytes ps ss next k m j later gs is =
    next k m j later gs (record { flags = is.flags.1; there = is.there; groups = is.groups; fixes = is.fixes; goes_from = is.goes_from; number = is.number; rules = is.rules })
going_reread text other fs fixed gone at p (Styles len) bytes ps ss next k m j later gs is =
    let all : (list_all goes (of_rule k fs) && not (is_fixed text k (record { from = at; to = at + length bytes }) (of_rule k fs))) ≡ true = first_same _ _ _ _ is.rules in
    let both = and_parts (list_all goes (of_rule k fs)) (not (is_fixed text k (record { from = at; to = at + length bytes }) (of_rule k fs))) all in
    rule_goes text other fs fixed gone at p len bytes ps ss k (suc m) j later gs (rules_in (steps_at later (rest_of (suc m) ps ss))) is (not-true _ both.1) both.0
    (next (k + 1) (suc m) j later is.groups.1 (style_next text other fs fixed gone at p len bytes ps ss k (suc m) j later gs is (suc m) j later refl (omega arith) is.there))

pub reread_from : (text other : List ℕ) (fs : List Flagged) (fixed gone : List Bool) (ss : List Span) (at : ℕ) (ps : List Plan) → ArePlans at ps ss → Stands text at ss → AreSized ss → RereadFrom text other fs fixed gone at ps ss
reread_from text other fs fixed gone [] at [] are stands sized k m j later gs is = ap (stayed_in fixed) is.groups
reread_from text other fs fixed gone [] at (p ∷ ps) are stands sized k m j later gs is = absurd are
reread_from text other fs fixed gone (s ∷ ss) at [] are stands sized k m j later gs is = absurd are
reread_from text other fs fixed gone (s ∷ ss) at (p ∷ ps) are stands sized k zero j later gs is =
    top_reread text other fs fixed gone at p s.front s.bytes ps ss are.0 stands sized.0 (reread_from text other fs fixed gone ss (at + length s.bytes) ps are.1 (stands_next text at s ss stands) sized.1) k j later gs is
reread_from text other fs fixed gone (s ∷ ss) at (p ∷ ps) are stands sized k (suc m) j later gs is =
    going_reread text other fs fixed gone at p s.front s.bytes ps ss (reread_from text other fs fixed gone ss (at + length s.bytes) ps are.1 (stands_next text at s ss stands) sized.1) k m j later gs is
