-- What stands where in a line of a game, before any name is looked at.
use Rattle.std.specs.Prelude.{ℕ, List, [], ◌∷◌, codes, Option, None, Some, option_map, if◌then◌else◌}
use Rattle.std.specs.Str.{bytes_eq}
use Rattle.riichi_game_text.specs.declared.forms.DrawForm as read

-- a word behind a key, where the key comes next: what stands behind, and none where the key has no word
abbrev pub word_behind : List (List ℕ) → Option (Option (List ℕ) × List (List ℕ))
word_behind [] = None
word_behind (word ∷ words) = Some (Some word, words)

unfoldable pub part_at : List ℕ → List (List ℕ) → Option (Option (List ℕ) × List (List ℕ))
part_at key [] = Some (None, [])
part_at key (word ∷ words) = if bytes_eq word key then word_behind words else Some (None, word ∷ words)

-- nothing stands behind
abbrev pub if_nothing_follows : {T : Type 0} → T → List (List ℕ) → Option T
if_nothing_follows value [] = Some value
if_nothing_follows value (word ∷ words) = None

-- ---- each line, without its first word

-- `riichi NAMES` at the end of a line, or nothing
abbrev pub last_part : Option (Option (List ℕ) × List (List ℕ)) → Option (Option (List ℕ))
last_part None = None
last_part (Some part) = if_nothing_follows part.0 part.1

unfoldable pub riichi_at_end : List (List ℕ) → Option (Option (List ℕ))
riichi_at_end words = last_part (part_at (codes "riichi") words)

-- `[ready NAMES] [nagashi NAMES] [riichi NAMES]`
pub record DrawForm : Type 0 where
  pub ready : Option (List ℕ)
  pub nagashi : Option (List ℕ)
  pub riichi : Option (List ℕ)

-- the same as it was read
abbrev pub draw_as_read : read.DrawForm → DrawForm
draw_as_read draw = record {
  ready = option_map (λ names. names.now) draw.ready;
  nagashi = option_map (λ names. names.now) draw.nagashi;
  riichi = option_map (λ names. names.now) draw.riichi;
}

abbrev pub draw_parts : Option (List ℕ) → Option (List ℕ) → Option (Option (List ℕ)) → Option DrawForm
draw_parts ready nagashi None = None
draw_parts ready nagashi (Some riichi) = Some (record { ready = ready; nagashi = nagashi; riichi = riichi })

abbrev pub behind_ready : Option (List ℕ) → Option (Option (List ℕ) × List (List ℕ)) → Option DrawForm
behind_ready ready None = None
behind_ready ready (Some part) = draw_parts ready part.0 (riichi_at_end part.1)

abbrev pub behind_draw : Option (Option (List ℕ) × List (List ℕ)) → Option DrawForm
behind_draw None = None
behind_draw (Some part) = behind_ready part.0 (part_at (codes "nagashi") part.1)

unfoldable pub draw_form : List (List ℕ) → Option DrawForm
draw_form words = behind_draw (part_at (codes "ready") words)

-- `NAME`
abbrev pub name_form : List (List ℕ) → Option (List ℕ)
name_form (name ∷ []) = Some name
name_form others = None
