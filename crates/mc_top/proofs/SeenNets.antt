-- Networks of one text as clauses see them: they are the same.
use Rattle.std.proofs.Common.{◌≡◌, ℕ, List, map, ap, ◌∙◌}
use Rattle.mc_box.specs.BoxShapes.{BoxShapeState}
use Rattle.mc_box.specs.declared.event.Turn.{Turn}
use Rattle.mc_lines.specs.declared.tail.Tail.{Tail}
use Rattle.mc_model.specs.Worlds.{WorldState}
use Rattle.mc_net.proofs.OneNet.{one_net}
use Rattle.mc_net.specs.Nets.{DeclaresNet, batch_turns}
use Rattle.mc_net.specs.TextLaws.{IsSameNet}
use Rattle.mc_net.specs.declared.net.Net.{Net}
use Rattle.mc_text.specs.NameLists.{NameLists}

-- what clauses see of a network, with its batches as turns
pub record Seen : Type 0 where
  pub world : WorldState
  pub names : NameLists
  pub shape : List BoxShapeState
  pub batches : List (List Turn)
  pub rest : ℕ

abbrev pub seen_with : WorldState → NameLists → List BoxShapeState → List (List Turn) → ℕ → Seen
seen_with world names shape batches rest = record { world = world; names = names; shape = shape; batches = batches; rest = rest }

abbrev pub seen : Net → Seen
seen net = seen_with net.world net.names net.shape (map batch_turns net.batches.items) net.rest

pub seen_same : (net other : Net) → IsSameNet net other → seen net ≡ seen other
seen_same net other same =
    ap (λ (world : WorldState). seen_with world net.names net.shape (map batch_turns net.batches.items) net.rest) same.world
    ∙ (ap (λ (names : NameLists). seen_with other.world names net.shape (map batch_turns net.batches.items) net.rest) same.names
    ∙ (ap (λ (shape : List BoxShapeState). seen_with other.world other.names shape (map batch_turns net.batches.items) net.rest) same.shape
    ∙ (ap (λ (batches : List (List Turn)). seen_with other.world other.names other.shape batches net.rest) same.batches
    ∙ ap (λ (rest : ℕ). seen_with other.world other.names other.shape (map batch_turns other.batches.items) rest) same.rest)))

-- two networks of one text
pub declared_same : (tail : Tail) (text : List ℕ) (net other : Net) → DeclaresNet tail text net → DeclaresNet tail text other → seen net ≡ seen other
declared_same tail text net other one two = seen_same net other (one_net tail text net other one two)
