use Rattle.std.proofs.Common.{sym, ◌∙◌}
use Rattle.std.specs.Str.{bytes_eq}
use Rattle.mc_text.proofs.Places.{position-map}
use Rattle.mc_text.proofs.name_list.NameList.find.Goals as goal

pub returns : goal.returns
returns c = rw (← c.self.view_is) (c.get_index_of.ensures.index ∙ sym (position-map (λ name. name.items) (bytes_eq c.args.name.now) c.self.inside.names.keys))

pub returns-then-len-le-FEW_NAMES : goal.returns-then-len-le-FEW_NAMES
returns-then-len-le-FEW_NAMES c = rw (← c.self.view_is) (rw (← c.as_slice.ensures.keys) c.place_among.ensures ∙ sym (position-map (λ name. name.items) (bytes_eq c.args.name.now) c.self.inside.names.keys))
