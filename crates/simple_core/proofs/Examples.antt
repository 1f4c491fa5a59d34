-- Systems written out by hand, and what their labels are after some rounds.
use Rattle.std.specs.Prelude.{◌≡◌, [], ◌∷◌, Some, None, false, refl}
use Rattle.tree_sem.specs.Trees.{LabelTree, node, no_nodes}
use Rattle.simple_core.specs.declared.system.System.{System}
use Rattle.simple_core.specs.Rounds.{grown}
use Rattle.simple_core.specs.Pages.{page_round}

-- A box (3, 4) gets boxes. Of the selectors `.box .box .box` and `.box > p` the first gives 12, and the second 13.
abbrev nested : System
nested = record {
  local = (record { needs = (4 ∷ 6 ∷ []); gives = 7; stmt = None } ∷ record { needs = (4 ∷ 8 ∷ []); gives = 9; stmt = None } ∷ record { needs = (5 ∷ 10 ∷ []); gives = 11; stmt = None } ∷ record { needs = (9 ∷ []); gives = 12; stmt = None } ∷ record { needs = (11 ∷ []); gives = 13; stmt = None } ∷ []);
  up = (record { from = 4; to = 6 } ∷ record { from = 6; to = 6 } ∷ record { from = 7; to = 8 } ∷ record { from = 8; to = 8 } ∷ record { from = 4; to = 10 } ∷ []);
  down = (record { from = 12; to = 12 } ∷ record { from = 13; to = 13 } ∷ []);
  child = (record { needs = 4; kind = 0 } ∷ []);
  kinds = (record { label = (3 ∷ 4 ∷ []); stmt = 0; above = None; number = 0; siblings = 1; beside = false } ∷ []);
  visible = (4 ∷ 6 ∷ 7 ∷ 8 ∷ []);
}

abbrev box : LabelTree
box = record { label = (3 ∷ 4 ∷ []); below = no_nodes }

-- a box below three boxes has 12 in round 3; one below a single box hasn't yet, and gets it from boxes below it
nested_below_three : grown nested 3 0 (4 ∷ 6 ∷ 8 ∷ []) ≡ (3 ∷ 4 ∷ 6 ∷ 7 ∷ 8 ∷ 9 ∷ 10 ∷ 12 ∷ [])
nested_below_three = refl

nested_before : grown nested 3 0 (4 ∷ []) ≡ (3 ∷ 4 ∷ 6 ∷ 7 ∷ 10 ∷ [])
nested_before = refl

nested_below_one : grown nested 4 0 (4 ∷ []) ≡ (3 ∷ 4 ∷ 6 ∷ 7 ∷ 10 ∷ 12 ∷ [])
nested_below_one = refl

nested_page : page_round nested box 5 [] ≡ (3 ∷ 4 ∷ 12 ∷ [])
nested_page = refl

nested_at_rest : page_round nested box 6 [] ≡ (3 ∷ 4 ∷ 12 ∷ [])
nested_at_rest = refl

-- A node (3, 4) gets the list `<ul><li class="x"></li></ul>`, whose kinds are 0 and 1. The selector `.a > ul > .x` gives 13.
abbrev list : System
list = record {
  local = (record { needs = (5 ∷ 8 ∷ []); gives = 9; stmt = None } ∷ record { needs = (6 ∷ 10 ∷ []); gives = 11; stmt = None } ∷ record { needs = (11 ∷ []); gives = 13; stmt = None } ∷ []);
  up = (record { from = 4; to = 8 } ∷ record { from = 9; to = 10 } ∷ []);
  down = (record { from = 13; to = 13 } ∷ []);
  child = (record { needs = 4; kind = 0 } ∷ record { needs = 12; kind = 1 } ∷ []);
  kinds = (record { label = (5 ∷ 12 ∷ []); stmt = 0; above = None; number = 0; siblings = 1; beside = false } ∷ record { label = (6 ∷ 7 ∷ []); stmt = 0; above = (Some 0); number = 0; siblings = 1; beside = false } ∷ []);
  visible = (4 ∷ 9 ∷ []);
}

list_item : grown list 3 1 (9 ∷ []) ≡ (6 ∷ 7 ∷ 10 ∷ 11 ∷ 13 ∷ [])
list_item = refl

list_whole : grown list 4 0 (4 ∷ []) ≡ (5 ∷ 8 ∷ 9 ∷ 12 ∷ 13 ∷ [])
list_whole = refl

list_page : page_round list box 5 [] ≡ (3 ∷ 4 ∷ 13 ∷ [])
list_page = refl

-- A form (3, 4) has a box (5, 6), which gets `<p><span class="err"></span></p>`. A form above an error gets the class 7.
abbrev form : System
form = record {
  local = (record { needs = (3 ∷ 11 ∷ []); gives = 12; stmt = None } ∷ record { needs = (3 ∷ 7 ∷ []); gives = 13; stmt = None } ∷ record { needs = (12 ∷ []); gives = 7; stmt = (Some 1) } ∷ record { needs = (13 ∷ []); gives = 15; stmt = None } ∷ []);
  up = [];
  down = (record { from = 10; to = 11 } ∷ record { from = 11; to = 11 } ∷ record { from = 15; to = 15 } ∷ []);
  child = (record { needs = 6; kind = 0 } ∷ record { needs = 14; kind = 1 } ∷ []);
  kinds = (record { label = (8 ∷ 14 ∷ []); stmt = 0; above = None; number = 0; siblings = 1; beside = false } ∷ record { label = (9 ∷ 10 ∷ []); stmt = 0; above = (Some 0); number = 0; siblings = 1; beside = false } ∷ []);
  visible = [];
}

abbrev form_page : LabelTree
form_page = record { label = (3 ∷ 4 ∷ []); below = (node (5 ∷ 6 ∷ []) no_nodes no_nodes) }

form_paragraph : grown form 1 0 [] ≡ (8 ∷ 11 ∷ 14 ∷ [])
form_paragraph = refl

-- nothing changes in the first round, and yet that isn't rest
form_still : page_round form form_page 1 (0 ∷ []) ≡ (5 ∷ 6 ∷ [])
form_still = refl

form_box : page_round form form_page 2 (0 ∷ []) ≡ (5 ∷ 6 ∷ 11 ∷ [])
form_box = refl

form_closed : page_round form form_page 7 [] ≡ (3 ∷ 4 ∷ 7 ∷ 11 ∷ 12 ∷ 13 ∷ 15 ∷ [])
form_closed = refl
