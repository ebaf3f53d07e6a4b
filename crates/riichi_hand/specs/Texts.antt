-- What the notation texts and the melds of a line spell.
use Rattle.std.specs.Prelude.{ℕ, ◌+◌, ◌==◌, List, [], ◌∷◌, Option, None, Some, nat_lt, unwrap_or, option_map, if◌then◌else◌, replicate, slice_index}
use Rattle.std.specs.List.{find, sum}
use Rattle.riichi_tiles.specs.Notation.{notation_fault, counts_of, characters, circles, bamboos}
use Rattle.riichi_tiles.specs.Melds.{every_kind}
use Rattle.riichi_tiles.specs.Reds.{zeros, reds_in, reds_together}
use Rattle.riichi_tiles.specs.declared.meld.Meld.{Meld}
use Rattle.riichi_hand.specs.declared.fault.LineFault.{LineFault}
use Rattle.riichi_hand.specs.declared.fault.LineFault.TheVariants.{Notation}
use Rattle.riichi_hand.specs.declared.fault.TextName.{TextName}
use Rattle.riichi_hand.specs.declared.line.key.Key.TheVariants.{On, Dora, Ura, Seen, Open}
use Rattle.riichi_hand.specs.declared.line.texts.Texts.{Texts}
use Rattle.riichi_hand.specs.Values.{melds_of}
use Rattle.riichi_hand.specs.Parts.{LineParts, value}

-- A notation text that may be missing: its fault, and its counts.

abbrev pub text_fault : TextName → Option (List ℕ) → Option LineFault
text_fault name None = None
text_fault name (Some text) = option_map (Notation name) (notation_fault text)

abbrev pub counts_if_given : Option (List ℕ) → List ℕ
counts_if_given None = replicate 34 0
counts_if_given (Some text) = counts_of text

-- melds that may be missing
abbrev pub melds_if_given : Option (List ℕ) → Option (List Meld)
melds_if_given None = Some []
melds_if_given (Some value) = melds_of value

-- What the texts of a line spell. Where one has a fault, what stands here doesn't matter.
abbrev pub texts_of : LineParts → Texts
texts_of parts = record {
  hand = counts_of parts.hand;
  on = counts_if_given (value On parts);
  dora = counts_if_given (value Dora parts);
  ura = counts_if_given (value Ura parts);
  seen = counts_if_given (value Seen parts);
  melds = unwrap_or (melds_if_given (value Open parts)) [];
}

-- no tiles at all
abbrev pub no_texts : Texts
no_texts = record { hand = replicate 34 0; on = replicate 34 0; dora = replicate 34 0; ura = replicate 34 0; seen = replicate 34 0; melds = [] }

-- the kind of the only tile
abbrev pub only_kind : List ℕ → Option ℕ
only_kind counts = if sum counts == 1 then find (λ kind. nat_lt 0 (slice_index counts kind)) every_kind else None

-- how many digits 0 a letter closes in the texts of the hand, of the winning tile and of the melds
abbrev pub zeros_in : LineParts → ℕ → ℕ
zeros_in parts letter = zeros letter parts.hand + zeros letter (unwrap_or (value On parts) []) + zeros letter (unwrap_or (value Open parts) [])

-- the red fives of a line: the digits 0 of m, of p and of s in hand, winning tile and melds; a 0 among the indicators is a plain five
abbrev pub reds : LineParts → List ℕ
reds parts = zeros_in parts characters ∷ zeros_in parts circles ∷ zeros_in parts bamboos ∷ []

-- the same as they are added text by text, where what is above four isn't counted
abbrev pub joined_reds : LineParts → List ℕ
joined_reds parts =
    reds_together (reds_together (reds_in parts.hand) (reds_in (unwrap_or (value On parts) []))) (reds_in (unwrap_or (value Open parts) []))
