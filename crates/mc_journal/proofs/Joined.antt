-- The words of a command, after `turn`.
use Rattle.std.proofs.Common.{◌≡◌, ℕ, List, ◌∷◌, ◌++◌, codes, refl, ap, ◌∙◌, append_assoc}
use Rattle.std.specs.List.{join_with_byte}
use Rattle.mc_text.specs.NameLists.{NameLists}
use Rattle.mc_box.specs.declared.event.Change.TheVariants.{End as NewEnd, Link as NewLink}
use Rattle.mc_box.specs.declared.event.Event.{Event}
use Rattle.mc_box.specs.declared.event.Event.TheVariants.{Take, Set, Media, Tell, Retry, Shift}
use Rattle.mc_box.specs.declared.event.MediaChange.TheVariants.{Hear, Talk}
use Rattle.mc_script.specs.Meaning.{event_words}
use Rattle.mc_script.specs.Printed.{IsNamedEvent}

module _ (names : NameLists) (who : ℕ) where
  joined : (event : Event) → IsNamedEvent names who event → codes "turn " ++ join_with_byte 32 (event_words names who event) ≡ join_with_byte 32 (codes "turn" ∷ event_words names who event)
  joined (Set (NewEnd local goal)) named = refl
  joined (Set (NewLink local other)) named = refl
  joined (Media (Hear local on)) named = refl
  joined (Media (Talk local on)) named = refl
  joined (Tell told) named = refl
  joined (Take local) named = absurd named
  joined (Retry local) named = absurd named
  joined Shift named = absurd named

  -- `turn`, a space and a command are the words of its line
  pub behind_turn : (event : Event) → IsNamedEvent names who event → (before : List ℕ)
      → (before ++ codes "turn ") ++ join_with_byte 32 (event_words names who event) ≡ before ++ join_with_byte 32 (codes "turn" ∷ event_words names who event)
  behind_turn event named before =
      append_assoc before (codes "turn ") (join_with_byte 32 (event_words names who event)) ∙ ap (λ (line : List ℕ). before ++ line) (joined event named)
