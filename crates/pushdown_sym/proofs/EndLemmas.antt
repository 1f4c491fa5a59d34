-- What is noted of the ends of links.
use Rattle.std.proofs.Common.{◌≡◌, ◌≢◌, ℕ, ◌<◌, List, [], ◌∷◌, ◌++◌, set, length, get_or, slice_get, Some, Contains, sym, ap, subst, ◌∙◌, arith, inl, inr, ◌⊎◌, take, Result, Ok, Err, OnErr}
use Rattle.std.proofs.lemmas.Bool.{cases_order}
use Rattle.std.proofs.lemmas.List.{get_or-set_same, get_or-set_other}
use Rattle.std.proofs.lemmas.List.Elements.{Contains-append_left, Contains-append_right, Contains-append_cases}
use Rattle.std.proofs.lemmas.Option.{slice_get-get_or}
use Rattle.tp_base.specs.Classes.{with_class}
use Rattle.tp_base.proofs.ClassLemmas.{with_class-keeps, with_class-there, Contains-with_class}
use Rattle.tp_base.proofs.Lists.{Contains-only}
use Rattle.tp_base.proofs.Rising.{Contains-here, Contains-none}
use Rattle.row_index.specs.Rows.{row_of}
use Rattle.row_index.proofs.RowLemmas.{Contains-take}
use Rattle.pushdown_sym.specs.Ends.{IsEndNoted, AreEndsNoted, AreSomeNoted}

pub same_or_other : (m n : ℕ) → (m ≡ n) ⊎ (m ≢ n)
same_or_other m n = elim (cases_order m n) [
  | inl same ↦ inl same
  | inr (inl less) ↦ inr (λ same. omega (arith, less, same))
  | inr (inr more) ↦ inr (λ same. omega (arith, more, same))
]

last_cases : {X : Type 0} (xs : List X) (x y : X) → Contains (xs ++ x ∷ []) y → Contains xs y ⊎ (y ≡ x)
last_cases xs x y there = elim (Contains-append_cases xs (x ∷ []) y there) [ inl before ↦ inl before | inr now ↦ inr (sym (Contains-only x y now)) ]

pub at_item : {X : Type 0} (xs : List X) (i : ℕ) (x : X) → i < length xs → x ≡ get_or xs i x → slice_get xs i ≡ Some x
at_item xs i x less item = slice_get-get_or xs i x less ∙ ap (λ y. Some y) (sym item)

-- ### one end more

module _ (old mid : List (List ℕ)) (atom end : ℕ) (row more : List ℕ) (same : (m : ℕ) → row_of mid m ≡ row_of old m) (less : atom < length mid)
    (here : row_of mid atom ≡ row) (grew : more ≡ with_class end row) where
  at_atom : row_of (set mid atom more) atom ≡ with_class end row
  at_atom = get_or-set_same mid atom more [] less ∙ grew

  at_other : (m : ℕ) → m ≢ atom → row_of (set mid atom more) m ≡ row_of old m
  at_other m other = get_or-set_other mid atom m more [] other ∙ same m

  pub end_noted : IsEndNoted atom end (row_of old) (row_of (set mid atom more))
  end_noted = record {
    kept = λ m a there. elim (same_or_other m atom) [
      | inl is ↦ subst (λ z. Contains (row_of (set mid atom more) z) a) (sym is) (subst (λ (z : List ℕ). Contains z a) (sym at_atom)
          (with_class-keeps end row a (subst (λ (z : List ℕ). Contains z a) (sym (same atom) ∙ here) (subst (λ z. Contains (row_of old z) a) is there))))
      | inr other ↦ subst (λ (z : List ℕ). Contains z a) (sym (at_other m other)) there
    ];
    noted = subst (λ (z : List ℕ). Contains z end) (sym at_atom) (with_class-there end row);
    only = λ m a there. elim (same_or_other m atom) [
      | inr other ↦ inl (subst (λ (z : List ℕ). Contains z a) (at_other m other) there)
      | inl is ↦ elim ((Contains-with_class end row a).0 (subst (λ (z : List ℕ). Contains z a) at_atom (subst (λ z. Contains (row_of (set mid atom more) z) a) is there))) [
        | inl last ↦ inr (is, last)
        | inr earlier ↦ inl (subst (λ z. Contains (row_of old z) a) (sym is) (subst (λ (z : List ℕ). Contains z a) (sym here ∙ same atom) earlier))
      ]
    ];
  }

pub ends_none : (old : ℕ → List ℕ) → AreEndsNoted [] old old
ends_none old = record {
  kept = λ m a there. there;
  noted = λ m a listed. absurd (Contains-none {X = ℕ × ℕ} (m, a) listed);
  only = λ m a there. inl there;
}

pub ends_more : (old mid new : ℕ → List ℕ) (done : List (ℕ × ℕ)) (pair : ℕ × ℕ) → AreEndsNoted done old mid → IsEndNoted pair.0 pair.1 mid new → AreEndsNoted (done ++ pair ∷ []) old new
ends_more old mid new done pair before noted = record {
  kept = λ m a there. noted.kept m a (before.kept m a there);
  noted = λ m a listed. elim (last_cases {X = ℕ × ℕ} done pair (m, a) listed) [
    | inl earlier ↦ noted.kept m a (before.noted m a earlier)
    | inr last ↦ subst (λ z. Contains (new z) a) (sym (ap (λ (c : ℕ × ℕ). c.0) last)) (subst (λ z. Contains (new pair.0) z) (sym (ap (λ (c : ℕ × ℕ). c.1) last)) noted.noted)
  ];
  only = λ m a there. elim (noted.only m a there) [
    | inl earlier ↦ elim (before.only m a earlier) [ inl first ↦ inl first | inr listed ↦ inr (Contains-append_left done (pair ∷ []) (m, a) listed) ]
    | inr last ↦ inr (Contains-append_right done (pair ∷ []) (m, a) (Contains-here {X = ℕ × ℕ} (m, a) pair [] (λ n. (last.0 n, last.1 n))))
  ];
}

-- ---- after a refusal

pub on_err : {T E : Type 0} (P : Type 0) (r : Result T E) → P → OnErr r P
on_err P (Ok x) p = tt
on_err P (Err e) p = p

-- a row that is written back as it was
pub end_left : (old mid : List (List ℕ)) (atom : ℕ) (row row' : List ℕ) → ((m : ℕ) → row_of mid m ≡ row_of old m) → atom < length mid → row_of mid atom ≡ row → row' ≡ row → (m : ℕ) → row_of (set mid atom row') m ≡ row_of old m
end_left old mid atom row row' same less here is m = elim (same_or_other m atom) [
  | inl at ↦ subst (λ z. row_of (set mid atom row') z ≡ row_of old z) (sym at) (get_or-set_same mid atom row' [] less ∙ is ∙ sym here ∙ same atom)
  | inr other ↦ get_or-set_other mid atom m row' [] other ∙ same m
]

pub some_left : (pairs : List (ℕ × ℕ)) (i : ℕ) (old mid new : ℕ → List ℕ) → AreEndsNoted (take i pairs) old mid → ((m : ℕ) → new m ≡ mid m) → AreSomeNoted pairs old new
some_left pairs i old mid new before same = record {
  kept = λ m a there. subst (λ (z : List ℕ). Contains z a) (sym (same m)) (before.kept m a there);
  only = λ m a there. elim (before.only m a (subst (λ (z : List ℕ). Contains z a) (same m) there)) [
    | inl first ↦ inl first
    | inr listed ↦ inr (Contains-take pairs i (m, a) listed)
  ];
}
