-- The statement that is judged in the place of a marked one is the wide one, whatever the marks are.
use Rattle.std.proofs.Common.{◌≡◌, ℕ, suc, List, [], ◌∷◌, map, Option, Some, None, refl, ap}
use Rattle.jq_stmts.specs.declared.sharp.Sharp.{Sharp}
use Rattle.jq_stmts.specs.declared.sharp.SharpKind.{SharpKind}
use Rattle.jq_stmts.specs.declared.sharp.SharpKind.TheVariants.{Closest, Siblings, First}
use Rattle.jq_stmts.specs.declared.sharp.ExactStmt.{ExactStmt}
use Rattle.jq_stmts.specs.Statements.{Root, Call, find, children, parent, parents, filter, has, around, near, add, back, Chain, Statement}
use Rattle.jq_stmts.specs.Sharp.{wide_call, wide_chain, wide_of}
use Rattle.jq_stmts.specs.Views.{statement_of, statements_of}
use Rattle.jq_stmts.specs.SharpViews.{kind_at, with_kind, exact_calls, exact_chain, exact_handlers, exact_of, exacts_of}

pub wide-with_kind : (c : Call) (kind : Option SharpKind) → wide_call (with_kind c kind) ≡ c
wide-with_kind c None = refl
wide-with_kind (around cs) (Some Closest) = refl
wide-with_kind c (Some Closest) = refl
wide-with_kind (near cs) (Some Siblings) = refl
wide-with_kind c (Some Siblings) = refl
wide-with_kind (filter ([] ∷ [])) (Some First) = refl
wide-with_kind c (Some First) = refl

pub wide-exact_calls : (sharp : List Sharp) (h : Option ℕ) (i : ℕ) (calls : List Call) → map wide_call (exact_calls sharp h i calls) ≡ calls
wide-exact_calls sharp h i [] = refl
wide-exact_calls sharp h i (c ∷ calls) =
    let first = wide-with_kind c (kind_at sharp h i) in
    let rest = wide-exact_calls sharp h (suc i) calls in
    λ j. first j ∷ rest j

wide-exact_chain : (sharp : List Sharp) (h : Option ℕ) (c : Chain) → wide_chain (exact_chain sharp h c) ≡ c
wide-exact_chain sharp h c = let calls = wide-exact_calls sharp h 0 c.calls in λ j. record { root = c.root; calls = calls j }

wide-exact_handlers : (sharp : List Sharp) (i : ℕ) (chains : List Chain) → map wide_chain (exact_handlers sharp i chains) ≡ chains
wide-exact_handlers sharp i [] = refl
wide-exact_handlers sharp i (c ∷ chains) =
    let first = wide-exact_chain sharp (Some i) c in
    let rest = wide-exact_handlers sharp (suc i) chains in
    λ j. first j ∷ rest j

pub wide-exact_of : (s : ExactStmt) → wide_of (exact_of s) ≡ statement_of s.wide
wide-exact_of s =
    let handlers = wide-exact_handlers s.sharp 0 (statement_of s.wide).handlers in
    let chain = wide-exact_chain s.sharp None (statement_of s.wide).chain in
    λ j. record { handlers = handlers j; chain = chain j; action = s.wide.action; place = s.wide.place }

pub wides-exacts_of : (ss : List ExactStmt) → map wide_of (exacts_of ss) ≡ statements_of (map (λ (s : ExactStmt). s.wide) ss)
wides-exacts_of [] = refl
wides-exacts_of (s ∷ ss) =
    let first = wide-exact_of s in
    let rest = wides-exacts_of ss in
    λ j. first j ∷ rest j
