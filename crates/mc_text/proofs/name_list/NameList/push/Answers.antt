use Rattle.std.proofs.Common.{◌≡◌, ℕ, None, false, List, ◌++◌, ◌∷◌, [], position, sym, ◌∙◌, ap, refl, map}
use Rattle.std.specs.Str.{bytes_eq}
use Rattle.std.specs.List.{list_any}
use Rattle.std.proofs.lemmas.List.{map_push}
use Rattle.mc_text.specs.NameLists.{with_name}
use Rattle.mc_text.proofs.Places.{position-map, list_any-none, AreNames-push}
use Rattle.mc_text.proofs.name_list.NameList.push.Goals as goal

-- the list grew by the name
pushed : (c : goal.In_ok-insert) → map (λ name. name.items) c.insert.new.self.keys ≡ map (λ name. name.items) c.self.inside.names.keys ++ c.args.name.now ∷ []
pushed c =
    let keys = c.self.inside.names.keys in
    let owned = c.in_ok-owned.owned in
    let none : position (λ name. bytes_eq c.args.name.now name.items) keys ≡ None = sym (position-map (λ name. name.items) (bytes_eq c.args.name.now) keys) ∙ rw c.self.view_is c.requires.new in
    let absent : list_any (λ name. bytes_eq owned.items name.items) keys ≡ false = rw c.in_ok-owned.ensures.items (list_any-none _ keys none) in
    let more : c.insert.new.self.keys ≡ keys ++ owned ∷ [] = c.in_ok-insert.ensures.keys ∙ rw absent refl in
    rw (more, map_push (λ name. name.items) keys owned, c.in_ok-owned.ensures.items) refl

pub returns-clause-added : goal.returns-clause-added
returns-clause-added c = pushed c ∙ ap (λ (names : List (List ℕ)). with_name names c.args.name.now) c.self.view_is

pub invariant_of-self-2 : goal.invariant_of-self-2
invariant_of-self-2 c = rw (pushed c) (AreNames-push (map (λ name. name.items) c.self.inside.names.keys) c.args.name.now c.self.invariant (rw c.self.view_is c.requires.new) c.requires.name)
