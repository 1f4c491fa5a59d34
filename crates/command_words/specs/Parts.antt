-- How the words of a command line are read.
--     word_of w             what a word looks like
--     reading waits ws      the parts that the words are, if they are some
use Rattle.std.specs.Prelude.{ℕ, ◌==◌, if◌then◌else◌, Bool, List, [], ◌∷◌, Option, Some, None, codes, find, option_map}
use Rattle.std.specs.List.{list_any, before_first, after_first}
use Rattle.std.specs.Str.{bytes_eq}

abbrev pub Text : Type 0
Text = List ℕ

-- an option without a value
pub data Flag : Type 0 where
  plain : Flag
  dead : Flag
  runs : Flag
  site : Flag
  prune : Flag

abbrev pub flag_name : Flag → Text
flag_name plain = codes "plain"
flag_name dead = codes "dead"
flag_name runs = codes "runs"
flag_name site = codes "site"
flag_name prune = codes "prune"

abbrev pub flags : List Flag
flags = plain ∷ dead ∷ runs ∷ site ∷ prune ∷ []

abbrev pub flag_of : Text → Option Flag
flag_of n = find (λ f. bytes_eq (flag_name f) n) flags

-- an option with a value
pub data Key : Type 0 where
  pairs : Key
  nodes : Key
  entries : Key
  list : Key
  gen : Key

abbrev pub key_name : Key → Text
key_name pairs = codes "pairs"
key_name nodes = codes "nodes"
key_name entries = codes "entries"
key_name list = codes "list"
key_name gen = codes "gen"

abbrev pub keys : List Key
keys = pairs ∷ nodes ∷ entries ∷ list ∷ gen ∷ []

abbrev pub key_of : Text → Option Key
key_of n = find (λ k. bytes_eq (key_name k) n) keys

-- an option without a value, one with its value, or a name
pub data Part : Type 0 where
  flag : Flag → Part
  given : Key → Text → Part
  name : Text → Part

-- `--`; `--name` or `--name=value`; another word that begins with `-`; any other word, `-` among them
pub data Word : Type 0 where
  dashes : Word
  long : Text → Option Text → Word
  dashed : Word
  bare : Word

abbrev pub is_equals : ℕ → Bool
is_equals x = x == 61

abbrev pub value_in : Text → Option Text
value_in text = if list_any is_equals text then Some (after_first is_equals text) else None

abbrev pub word_behind : Text → Word
word_behind [] = dashes
word_behind (x ∷ xs) = long (before_first is_equals (x ∷ xs)) (value_in (x ∷ xs))

abbrev pub word_of : Text → Word
word_of [] = bare
word_of (a ∷ []) = bare
word_of (a ∷ b ∷ rest) = if a == 45 then (if b == 45 then word_behind rest else dashed) else bare

-- what the next word may be: anything, the value of an option, or a name whatever it looks like
pub data State : Type 0 where
  anything : State
  value_of : Key → State
  names : State

abbrev pub with_part : Part → Option (List Part) → Option (List Part)
with_part p = option_map (λ ps. p ∷ ps)

module _ (next : State → Option (List Part)) where
  abbrev pub by_flag : Flag → Option Text → Option (List Part)
  by_flag f None = with_part (flag f) (next anything)
  by_flag f (Some v) = None

  abbrev pub by_key : Option Key → Option Text → Option (List Part)
  by_key None v = None
  by_key (Some k) None = next (value_of k)
  by_key (Some k) (Some v) = with_part (given k v) (next anything)

  -- no option has a value and none
  abbrev pub by_option : Option Flag → Option Key → Option Text → Option (List Part)
  by_option (Some f) k v = by_flag f v
  by_option None k v = by_key k v

  abbrev pub by_word : Word → Text → Option (List Part)
  by_word dashes w = next names
  by_word (long n v) w = by_option (flag_of n) (key_of n) v
  by_word dashed w = None
  by_word bare w = with_part (name w) (next anything)

-- the value of an option is no option
abbrev pub by_value : Key → Word → Text → Option (List Part) → Option (List Part)
by_value k bare w next = with_part (given k w) next
by_value k other w next = None

unfoldable pub reading : State → List Text → Option (List Part)
reading anything [] = Some []
reading (value_of k) [] = None
reading names [] = Some []
reading anything (w ∷ ws) = by_word (λ s. reading s ws) (word_of w) w
reading (value_of k) (w ∷ ws) = by_value k (word_of w) w (reading anything ws)
reading names (w ∷ ws) = with_part (name w) (reading names ws)
