-- Statements and their marks, apart and together.
use Rattle.std.proofs.Common.{◌≡◌, ℕ, suc, ◌||◌, false, List, [], ◌∷◌, ◌++◌, length, map, Option, Some, None, refl, sym, ap, ◌∙◌, subst, append_assoc, append-nil, arith, length-append}
use Rattle.std.specs.List.{list_any}
use Rattle.std.proofs.lemmas.List.{map-append}
use Rattle.std.proofs.lemmas.Bool.{or_parts}
use Rattle.jq_stmts.specs.declared.sharp.ExactStmt.{ExactStmt}
use Rattle.jq_stmts.specs.declared.sharp.Sharp.{Sharp}
use Rattle.jq_stmts.specs.declared.stmts.Stmt.{Stmt}
use Rattle.jq_stmts.specs.Sharp.{plain, ExactStatement, exactly, exact_statement, wide_call, wide_chain, wide_of, wides, has_sharp, have_sharp, is_sharp_statement}
use Rattle.jq_stmts.specs.SharpViews.{exact_calls, exact_chain, exact_handlers, exact_of, exacts_of}
use Rattle.jq_stmts.specs.Statements.{Call, Chain, Statement}
use Rattle.jq_stmts.specs.Views.{statement_of, statements_of}
use Rattle.jq_stmts.proofs.SharpLemmas.{wide-exact_of}
use Rattle.jq_exact.specs.Scripts.{marked, has_marks}

-- ---- a statement without marks

plain_calls : (h : Option ℕ) (i : ℕ) (calls : List Call) → exact_calls [] h i calls ≡ map plain calls
plain_calls h i [] = refl
plain_calls h i (c ∷ calls) = ap (λ z. plain c ∷ z) (plain_calls h (suc i) calls)

plain_chain : (h : Option ℕ) (c : Chain) → exact_chain [] h c ≡ exactly c
plain_chain h c = let calls = plain_calls h 0 c.calls in λ j. record { root = c.root; calls = calls j }

plain_handlers : (i : ℕ) (chains : List Chain) → exact_handlers [] i chains ≡ map exactly chains
plain_handlers i [] = refl
plain_handlers i (c ∷ chains) = let first = plain_chain (Some i) c in let rest = plain_handlers (suc i) chains in λ j. first j ∷ rest j

abbrev with_marks : Stmt → List Sharp → ExactStmt
with_marks s m = record { wide = s; sharp = m }

unmarked : (s : Stmt) → exact_of (with_marks s []) ≡ exact_statement (statement_of s)
unmarked s =
    let handlers = plain_handlers 0 (statement_of s).handlers in
    let chain = plain_chain None (statement_of s).chain in
    λ j. record { handlers = handlers j; chain = chain j; action = s.action; place = s.place }

-- ---- what is judged in the place of each

wide_calls : (calls : List Call) → map wide_call (map plain calls) ≡ calls
wide_calls [] = refl
wide_calls (c ∷ calls) = ap (λ z. c ∷ z) (wide_calls calls)

wide_exactly : (c : Chain) → wide_chain (exactly c) ≡ c
wide_exactly c = let calls = wide_calls c.calls in λ j. record { root = c.root; calls = calls j }

wide_handlers : (chains : List Chain) → map wide_chain (map exactly chains) ≡ chains
wide_handlers [] = refl
wide_handlers (c ∷ chains) = let first = wide_exactly c in let rest = wide_handlers chains in λ j. first j ∷ rest j

wide_statement : (s : Statement) → wide_of (exact_statement s) ≡ s
wide_statement s =
    let handlers = wide_handlers s.handlers in
    let chain = wide_exactly s.chain in
    λ j. record { handlers = handlers j; chain = chain j; action = s.action; place = s.place }

pub wides_plain : (ss : List Statement) → wides (map exact_statement ss) ≡ ss
wides_plain [] = refl
wides_plain (s ∷ ss) = let first = wide_statement s in let rest = wides_plain ss in λ j. first j ∷ rest j

pub wides_marked : (stmts : List Stmt) (sharp : List (List Sharp)) → wides (marked stmts sharp) ≡ statements_of stmts
wides_marked stmts [] = wides_plain (statements_of stmts)
wides_marked [] (m ∷ sharp) = refl
wides_marked (s ∷ stmts) (m ∷ sharp) = let first = wide-exact_of (with_marks s m) in let rest = wides_marked stmts sharp in λ j. first j ∷ rest j

-- ---- statements are parted from their marks, one after another

marked_more : (stmts : List Stmt) (sharp : List (List Sharp)) (s : ExactStmt) → length stmts ≡ length sharp → marked (stmts ++ s.wide ∷ []) (sharp ++ s.sharp ∷ []) ≡ marked stmts sharp ++ exact_of s ∷ []
marked_more [] [] s many = refl
marked_more [] (m ∷ sharp) s many = absurd (omega (arith, many))
marked_more (x ∷ stmts) [] s many = absurd (omega (arith, many))
marked_more (x ∷ stmts) (m ∷ sharp) s many = ap (λ z. exact_of (with_marks x m) ∷ z) (marked_more stmts sharp s (omega (arith, many)))

-- those that are parted, and those that are left, are all
pub record AreParted (stmts : List Stmt) (sharp : List (List Sharp)) (left all : List ExactStmt) : Type 0 where
  pub many : length stmts ≡ length sharp
  pub are : marked stmts sharp ++ exacts_of left ≡ exacts_of all

pub one_parted : (stmts : List Stmt) (sharp : List (List Sharp)) (s : ExactStmt) (left all : List ExactStmt) → AreParted stmts sharp (s ∷ left) all → AreParted (stmts ++ s.wide ∷ []) (sharp ++ s.sharp ∷ []) left all
one_parted stmts sharp s left all before = record {
  many = omega (arith, before.many, length-append stmts (s.wide ∷ []), length-append sharp (s.sharp ∷ []));
  are = ap (λ z. z ++ exacts_of left) (marked_more stmts sharp s before.many) ∙ append_assoc (marked stmts sharp) (exact_of s ∷ []) (exacts_of left) ∙ before.are;
}

pub all_parted : (stmts : List Stmt) (sharp : List (List Sharp)) (all : List ExactStmt) → AreParted stmts sharp [] all → marked stmts sharp ≡ exacts_of all
all_parted stmts sharp all before = sym (append-nil (marked stmts sharp)) ∙ before.are

-- ---- and put together again

-- those that are put together, and those that are left with the marks that are left, are all
pub record AreJoined (found : List ExactStmt) (stmts : List Stmt) (sharp : List (List Sharp)) (all : List ExactStatement) : Type 0 where
  pub are : exacts_of found ++ marked stmts sharp ≡ all

joined_next : (found : List ExactStmt) (s : Stmt) (m : List Sharp) (rest : List ExactStatement) (all : List ExactStatement) → exacts_of found ++ exact_of (with_marks s m) ∷ rest ≡ all → exacts_of (found ++ with_marks s m ∷ []) ++ rest ≡ all
joined_next found s m rest all is = rw (map-append exact_of found (with_marks s m ∷ [])) (append_assoc (exacts_of found) (exact_of (with_marks s m) ∷ []) rest ∙ is)

pub one_joined : (found : List ExactStmt) (s : Stmt) (m : List Sharp) (stmts : List Stmt) (sharp later : List (List Sharp)) (all : List ExactStatement) → AreJoined found (s ∷ stmts) sharp all
    → ((x : List Sharp) (xs : List (List Sharp)) → sharp ≡ x ∷ xs → m ≡ x) → ((x : List Sharp) (xs : List (List Sharp)) → sharp ≡ x ∷ xs → later ≡ xs) → (sharp ≡ [] → m ≡ []) → (sharp ≡ [] → later ≡ [])
    → AreJoined (found ++ with_marks s m ∷ []) stmts later all
one_joined found s m stmts [] later all before some more none no_more =
    record {
      are = subst (λ (z : List (List Sharp)). exacts_of (found ++ with_marks s m ∷ []) ++ marked stmts z ≡ all) (sym (no_more refl))
          (subst (λ (z : List Sharp). exacts_of (found ++ with_marks s z ∷ []) ++ marked stmts [] ≡ all) (sym (none refl))
          (joined_next found s [] (marked stmts []) all (subst (λ (z : ExactStatement). exacts_of found ++ z ∷ marked stmts [] ≡ all) (sym (unmarked s)) before.are)));
    }
one_joined found s m stmts (x ∷ sharp) later all before some more none no_more =
    record {
      are = subst (λ (z : List (List Sharp)). exacts_of (found ++ with_marks s m ∷ []) ++ marked stmts z ≡ all) (sym (more x sharp refl))
          (subst (λ (z : List Sharp). exacts_of (found ++ with_marks s z ∷ []) ++ marked stmts sharp ≡ all) (sym (some x sharp refl))
          (joined_next found s x (marked stmts sharp) all before.are));
    }

pub all_joined : (found : List ExactStmt) (stmts : List Stmt) (sharp : List (List Sharp)) (all : List ExactStatement) → AreJoined found stmts sharp all → stmts ≡ [] → exacts_of found ≡ all
all_joined found [] [] all before none = sym (append-nil (exacts_of found)) ∙ before.are
all_joined found [] (m ∷ sharp) all before none = sym (append-nil (exacts_of found)) ∙ before.are
all_joined found (s ∷ stmts) sharp all before none = cc

pub none_joined : (all : List ExactStatement) (stmts : List Stmt) (sharp : List (List Sharp)) → marked stmts sharp ≡ all → AreJoined [] stmts sharp all
none_joined all stmts sharp is = record { are = is }

-- ---- where no statement has a mark, none has a sharp call

calls_plain : (calls : List Call) → has_sharp (map plain calls) ≡ false
calls_plain [] = refl
calls_plain (c ∷ calls) = calls_plain calls

chains_plain : (chains : List Chain) → have_sharp (map exactly chains) ≡ false
chains_plain [] = refl
chains_plain (c ∷ chains) = ap (λ b. b || have_sharp (map exactly chains)) (calls_plain c.calls) ∙ chains_plain chains

statement_plain : (s : Statement) → is_sharp_statement (exact_statement s) ≡ false
statement_plain s = ap (λ b. b || have_sharp (map exactly s.handlers)) (calls_plain s.chain.calls) ∙ chains_plain s.handlers

pub statements_plain : (ss : List Statement) → list_any is_sharp_statement (map exact_statement ss) ≡ false
statements_plain [] = refl
statements_plain (s ∷ ss) = ap (λ b. b || list_any is_sharp_statement (map exact_statement ss)) (statement_plain s) ∙ statements_plain ss

no_mark : (m : List Sharp) (s : Stmt) → has_marks m ≡ false → is_sharp_statement (exact_of (with_marks s m)) ≡ false
no_mark [] s none = ap is_sharp_statement (unmarked s) ∙ statement_plain (statement_of s)
no_mark (x ∷ m) s none = cc

pub none_marked : (stmts : List Stmt) (sharp : List (List Sharp)) → list_any has_marks sharp ≡ false → list_any is_sharp_statement (marked stmts sharp) ≡ false
none_marked stmts [] none = statements_plain (statements_of stmts)
none_marked [] (m ∷ sharp) none = refl
none_marked (s ∷ stmts) (m ∷ sharp) none =
    let both = or_parts (has_marks m) (list_any has_marks sharp) none in
    ap (λ b. b || list_any is_sharp_statement (marked stmts sharp)) (no_mark m s both.0) ∙ none_marked stmts sharp both.1
