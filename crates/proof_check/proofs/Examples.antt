-- Worked examples: systems, pages and proofs, with the steps that they unfold to and the nodes where these end.
use Rattle.std.proofs.Common.{◌≡◌, List, [], ◌∷◌, true, false, Some, None, refl, length}
use Rattle.tree_sem.specs.declared.actions.Step.{Step}
use Rattle.tree_sem.specs.Trees.{no_nodes, node, LabelTree}
use Rattle.simple_core.specs.declared.system.System.{System}
use Rattle.proof_check.specs.declared.proofs.Below.TheVariants.{Real, Grown}
use Rattle.proof_check.specs.declared.proofs.Reason.TheVariants.{Start, Local, Up, Down}
use Rattle.proof_check.specs.declared.proofs.Proof.{Proof}
use Rattle.proof_check.specs.Unfolding.{unfolded, proof_steps}
use Rattle.proof_check.specs.Checks.{is_valid}

abbrev pub nested_system : System
nested_system = record {
  local = (record { needs = (4 ∷ 5 ∷ []); gives = 6; stmt = None } ∷ record { needs = (4 ∷ 7 ∷ []); gives = 8; stmt = None } ∷ record { needs = (8 ∷ []); gives = 9; stmt = None } ∷ []);
  up = (record { from = 4; to = 5 } ∷ record { from = 5; to = 5 } ∷ record { from = 6; to = 7 } ∷ record { from = 7; to = 7 } ∷ []);
  down = (record { from = 9; to = 9 } ∷ []);
  child = (record { needs = 4; kind = 0 } ∷ []);
  kinds = (record { label = (3 ∷ 4 ∷ []); stmt = 0; above = None; number = 0; siblings = 1; beside = false } ∷ []);
  visible = (4 ∷ 5 ∷ 6 ∷ 7 ∷ []);
}

abbrev pub nested_page : LabelTree
nested_page = record { label = (0 ∷ []); below = (node (1 ∷ []) no_nodes (node (2 ∷ []) (node (3 ∷ 4 ∷ []) no_nodes no_nodes) no_nodes)) }

abbrev pub nested_proof : Proof
nested_proof = record {
  entries = (record { kind = 0; parent = (6 ∷ []); items = (record { atom = 4; reason = Start } ∷ record { atom = 7; reason = Up 2 } ∷ record { atom = 8; reason = Local 1 } ∷ record { atom = 9; reason = Local 2 } ∷ []); steps = 0 } ∷ record { kind = 0; parent = (4 ∷ []); items = (record { atom = 4; reason = Start } ∷ record { atom = 5; reason = Up 0 } ∷ record { atom = 6; reason = Local 0 } ∷ record { atom = 9; reason = Down 0 (Grown 0 0) } ∷ []); steps = 1 } ∷ []);
  page = (record { at = (1 ∷ 0 ∷ []); item = record { atom = 4; reason = Start } } ∷ record { at = (1 ∷ 0 ∷ []); item = record { atom = 9; reason = Down 0 (Grown 0 1) } } ∷ record { at = (1 ∷ []); item = record { atom = 9; reason = Down 0 (Real 0) } } ∷ record { at = []; item = record { atom = 9; reason = Down 0 (Real 1) } } ∷ []);
}

abbrev pub nested_steps : List Step
nested_steps = (record { stmt = 0; at = (1 ∷ 0 ∷ []) } ∷ record { stmt = 0; at = (1 ∷ 0 ∷ 0 ∷ []) } ∷ [])

nested-unfolded : unfolded nested_system nested_proof nested_page 9 ≡ (nested_steps, (1 ∷ 0 ∷ 0 ∷ 0 ∷ []))
nested-unfolded = refl

nested-valid : is_valid nested_system nested_page nested_proof 9 ≡ true
nested-valid = refl

nested-count : proof_steps nested_system nested_proof ≡ length nested_steps
nested-count = refl

abbrev pub inner_system : System
inner_system = record {
  local = (record { needs = (3 ∷ 11 ∷ []); gives = 12; stmt = None } ∷ record { needs = (3 ∷ 7 ∷ []); gives = 13; stmt = None } ∷ record { needs = (12 ∷ []); gives = 7; stmt = (Some 1) } ∷ record { needs = (13 ∷ []); gives = 15; stmt = None } ∷ []);
  up = [];
  down = (record { from = 10; to = 11 } ∷ record { from = 11; to = 11 } ∷ record { from = 15; to = 15 } ∷ []);
  child = (record { needs = 6; kind = 0 } ∷ record { needs = 14; kind = 1 } ∷ []);
  kinds = (record { label = (8 ∷ 14 ∷ []); stmt = 0; above = None; number = 0; siblings = 1; beside = false } ∷ record { label = (9 ∷ 10 ∷ []); stmt = 0; above = (Some 0); number = 0; siblings = 1; beside = false } ∷ []);
  visible = [];
}

abbrev pub inner_page : LabelTree
inner_page = record { label = (0 ∷ []); below = (node (1 ∷ []) no_nodes (node (2 ∷ []) (node (3 ∷ 4 ∷ []) (node (5 ∷ 6 ∷ []) no_nodes no_nodes) no_nodes) no_nodes)) }

abbrev pub inner_proof : Proof
inner_proof = record {
  entries = (record { kind = 1; parent = []; items = (record { atom = 10; reason = Start } ∷ []); steps = 0 } ∷ record { kind = 0; parent = []; items = (record { atom = 14; reason = Start } ∷ record { atom = 11; reason = Down 0 (Grown 1 0) } ∷ []); steps = 0 } ∷ []);
  page = (record { at = (1 ∷ 0 ∷ []); item = record { atom = 3; reason = Start } } ∷ record { at = (1 ∷ 0 ∷ 0 ∷ []); item = record { atom = 6; reason = Start } } ∷ record { at = (1 ∷ 0 ∷ 0 ∷ []); item = record { atom = 11; reason = Down 1 (Grown 0 1) } } ∷ record { at = (1 ∷ 0 ∷ []); item = record { atom = 11; reason = Down 1 (Real 0) } } ∷ record { at = (1 ∷ 0 ∷ []); item = record { atom = 12; reason = Local 0 } } ∷ record { at = (1 ∷ 0 ∷ []); item = record { atom = 7; reason = Local 2 } } ∷ record { at = (1 ∷ 0 ∷ []); item = record { atom = 13; reason = Local 1 } } ∷ record { at = (1 ∷ 0 ∷ []); item = record { atom = 15; reason = Local 3 } } ∷ record { at = (1 ∷ []); item = record { atom = 15; reason = Down 2 (Real 0) } } ∷ record { at = []; item = record { atom = 15; reason = Down 2 (Real 1) } } ∷ []);
}

abbrev pub inner_steps : List Step
inner_steps = (record { stmt = 0; at = (1 ∷ 0 ∷ 0 ∷ []) } ∷ record { stmt = 1; at = (1 ∷ 0 ∷ []) } ∷ [])

inner-unfolded : unfolded inner_system inner_proof inner_page 15 ≡ (inner_steps, (1 ∷ 0 ∷ []))
inner-unfolded = refl

inner-valid : is_valid inner_system inner_page inner_proof 15 ≡ true
inner-valid = refl

inner-count : proof_steps inner_system inner_proof ≡ length inner_steps
inner-count = refl

abbrev pub shared_inner_system : System
shared_inner_system = record {
  local = (record { needs = (5 ∷ 15 ∷ []); gives = 16; stmt = None } ∷ record { needs = (16 ∷ 17 ∷ []); gives = 18; stmt = None } ∷ record { needs = (5 ∷ 6 ∷ []); gives = 19; stmt = None } ∷ record { needs = (10 ∷ []); gives = 13; stmt = (Some 3) } ∷ record { needs = (12 ∷ []); gives = 14; stmt = (Some 4) } ∷ record { needs = (18 ∷ []); gives = 6; stmt = (Some 5) } ∷ record { needs = (19 ∷ []); gives = 21; stmt = None } ∷ []);
  up = [];
  down = (record { from = 13; to = 15 } ∷ record { from = 15; to = 15 } ∷ record { from = 14; to = 17 } ∷ record { from = 17; to = 17 } ∷ record { from = 21; to = 21 } ∷ []);
  child = (record { needs = 4; kind = 0 } ∷ record { needs = 20; kind = 1 } ∷ record { needs = 8; kind = 2 } ∷ record { needs = 8; kind = 3 } ∷ []);
  kinds = (record { label = (5 ∷ 20 ∷ []); stmt = 0; above = None; number = 0; siblings = 1; beside = false } ∷ record { label = (7 ∷ 8 ∷ []); stmt = 0; above = (Some 0); number = 0; siblings = 1; beside = false } ∷ record { label = (9 ∷ 10 ∷ []); stmt = 1; above = None; number = 0; siblings = 1; beside = false } ∷ record { label = (11 ∷ 12 ∷ []); stmt = 2; above = None; number = 0; siblings = 1; beside = false } ∷ []);
  visible = [];
}

abbrev pub shared_inner_page : LabelTree
shared_inner_page = record { label = (0 ∷ []); below = (node (1 ∷ []) no_nodes (node (2 ∷ []) (node (3 ∷ 4 ∷ []) no_nodes no_nodes) no_nodes)) }

abbrev pub shared_inner_proof : Proof
shared_inner_proof = record {
  entries = (record { kind = 2; parent = []; items = (record { atom = 10; reason = Start } ∷ record { atom = 13; reason = Local 3 } ∷ []); steps = 1 } ∷ record { kind = 1; parent = []; items = (record { atom = 8; reason = Start } ∷ record { atom = 15; reason = Down 0 (Grown 2 0) } ∷ []); steps = 2 } ∷ record { kind = 3; parent = []; items = (record { atom = 12; reason = Start } ∷ record { atom = 14; reason = Local 4 } ∷ []); steps = 1 } ∷ record { kind = 1; parent = []; items = (record { atom = 8; reason = Start } ∷ record { atom = 17; reason = Down 2 (Grown 3 2) } ∷ []); steps = 2 } ∷ record { kind = 0; parent = []; items = (record { atom = 5; reason = Start } ∷ record { atom = 20; reason = Start } ∷ record { atom = 15; reason = Down 1 (Grown 1 1) } ∷ record { atom = 17; reason = Down 3 (Grown 1 3) } ∷ record { atom = 16; reason = Local 0 } ∷ record { atom = 18; reason = Local 1 } ∷ record { atom = 6; reason = Local 5 } ∷ record { atom = 19; reason = Local 2 } ∷ record { atom = 21; reason = Local 6 } ∷ []); steps = 5 } ∷ []);
  page = (record { at = (1 ∷ 0 ∷ []); item = record { atom = 4; reason = Start } } ∷ record { at = (1 ∷ 0 ∷ []); item = record { atom = 21; reason = Down 4 (Grown 0 4) } } ∷ record { at = (1 ∷ []); item = record { atom = 21; reason = Down 4 (Real 0) } } ∷ record { at = []; item = record { atom = 21; reason = Down 4 (Real 1) } } ∷ []);
}

abbrev pub shared_inner_steps : List Step
shared_inner_steps = (record { stmt = 0; at = (1 ∷ 0 ∷ []) } ∷ record { stmt = 1; at = (1 ∷ 0 ∷ 0 ∷ 0 ∷ []) } ∷ record { stmt = 3; at = (1 ∷ 0 ∷ 0 ∷ 0 ∷ 0 ∷ []) } ∷ record { stmt = 2; at = (1 ∷ 0 ∷ 0 ∷ 0 ∷ []) } ∷ record { stmt = 4; at = (1 ∷ 0 ∷ 0 ∷ 0 ∷ 1 ∷ []) } ∷ record { stmt = 5; at = (1 ∷ 0 ∷ 0 ∷ []) } ∷ [])

shared_inner-unfolded : unfolded shared_inner_system shared_inner_proof shared_inner_page 21 ≡ (shared_inner_steps, (1 ∷ 0 ∷ 0 ∷ []))
shared_inner-unfolded = refl

shared_inner-valid : is_valid shared_inner_system shared_inner_page shared_inner_proof 21 ≡ true
shared_inner-valid = refl

shared_inner-count : proof_steps shared_inner_system shared_inner_proof ≡ length shared_inner_steps
shared_inner-count = refl

abbrev pub beside_system : System
beside_system = record {
  local = (record { needs = (7 ∷ 16 ∷ []); gives = 17; stmt = None } ∷ record { needs = (14 ∷ []); gives = 6; stmt = (Some 2) } ∷ record { needs = (17 ∷ []); gives = 18; stmt = None } ∷ []);
  up = (record { from = 6; to = 16 } ∷ record { from = 16; to = 16 } ∷ []);
  down = (record { from = 9; to = 13 } ∷ record { from = 7; to = 14 } ∷ record { from = 5; to = 15 } ∷ record { from = 18; to = 18 } ∷ []);
  child = (record { needs = 4; kind = 0 } ∷ record { needs = 13; kind = 1 } ∷ record { needs = 13; kind = 2 } ∷ record { needs = 15; kind = 3 } ∷ []);
  kinds = (record { label = (8 ∷ 9 ∷ []); stmt = 0; above = None; number = 0; siblings = 1; beside = false } ∷ record { label = (7 ∷ 10 ∷ []); stmt = 1; above = None; number = 0; siblings = 2; beside = true } ∷ record { label = (11 ∷ []); stmt = 1; above = None; number = 1; siblings = 2; beside = true } ∷ record { label = (7 ∷ 12 ∷ []); stmt = 3; above = None; number = 0; siblings = 1; beside = true } ∷ []);
  visible = (6 ∷ 16 ∷ []);
}

abbrev pub beside_page : LabelTree
beside_page = record { label = (0 ∷ []); below = (node (1 ∷ []) no_nodes (node (2 ∷ []) (node (3 ∷ 4 ∷ []) (node (5 ∷ []) no_nodes no_nodes) no_nodes) no_nodes)) }

abbrev pub beside_proof : Proof
beside_proof = record {
  entries = (record { kind = 0; parent = []; items = (record { atom = 9; reason = Start } ∷ []); steps = 0 } ∷ record { kind = 1; parent = []; items = (record { atom = 7; reason = Start } ∷ []); steps = 0 } ∷ record { kind = 1; parent = (6 ∷ []); items = (record { atom = 7; reason = Start } ∷ record { atom = 16; reason = Up 0 } ∷ record { atom = 17; reason = Local 0 } ∷ record { atom = 18; reason = Local 2 } ∷ []); steps = 0 } ∷ []);
  page = (record { at = (1 ∷ 0 ∷ []); item = record { atom = 4; reason = Start } } ∷ record { at = (1 ∷ 0 ∷ []); item = record { atom = 13; reason = Down 0 (Grown 0 0) } } ∷ record { at = (1 ∷ 0 ∷ []); item = record { atom = 14; reason = Down 1 (Grown 1 1) } } ∷ record { at = (1 ∷ 0 ∷ []); item = record { atom = 6; reason = Local 1 } } ∷ record { at = (1 ∷ 0 ∷ []); item = record { atom = 18; reason = Down 3 (Grown 1 2) } } ∷ record { at = (1 ∷ []); item = record { atom = 18; reason = Down 3 (Real 0) } } ∷ record { at = []; item = record { atom = 18; reason = Down 3 (Real 1) } } ∷ []);
}

abbrev pub beside_steps : List Step
beside_steps = (record { stmt = 0; at = (1 ∷ 0 ∷ []) } ∷ record { stmt = 1; at = (1 ∷ 0 ∷ 1 ∷ []) } ∷ record { stmt = 2; at = (1 ∷ 0 ∷ []) } ∷ record { stmt = 1; at = (1 ∷ 0 ∷ 1 ∷ []) } ∷ [])

beside-unfolded : unfolded beside_system beside_proof beside_page 18 ≡ (beside_steps, (1 ∷ 0 ∷ 4 ∷ []))
beside-unfolded = refl

beside-valid : is_valid beside_system beside_page beside_proof 18 ≡ true
beside-valid = refl

beside-count : proof_steps beside_system beside_proof ≡ length beside_steps
beside-count = refl

-- the first item of the page with a rule whose needs aren't met
abbrev pub nested_broken : Proof
nested_broken = record nested_proof {
  page = (record { at = (1 ∷ 0 ∷ []); item = record { atom = 4; reason = Local 1 } } ∷ record { at = (1 ∷ 0 ∷ []); item = record { atom = 9; reason = Down 0 (Grown 0 1) } } ∷ record { at = (1 ∷ []); item = record { atom = 9; reason = Down 0 (Real 0) } } ∷ record { at = ([]); item = record { atom = 9; reason = Down 0 (Real 1) } } ∷ []);
}

nested-broken : is_valid nested_system nested_page nested_broken 9 ≡ false
nested-broken = refl
