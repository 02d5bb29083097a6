use Rattle.std.proofs.Common.{◌≤◌, ℕ, length, sym, ◌∙◌, subst}
use Rattle.std.proofs.Math.Nat.{min-le_right}
use Rattle.mc_net.specs.Texts.{bytes_before, text_lines}
use Rattle.mc_net.proofs.Declaring.{AreOf, net_declares}
use Rattle.mc_net.proofs.MadeNets.{net_allowed, net_has_few, net_named, net_programs}
use Rattle.mc_net.proofs.net.read_net.Goals as goal

-- the parts are those that the text declares
are_of : (c : goal.In_ok-make_net) → AreOf c.in_ok-reader.reader c.into_parts-parts.result
are_of c = record {
  names = c.into_parts-parts.ensures.names;
  shape = c.into_parts-parts.ensures.shape;
  boxes = c.into_parts-parts.ensures.boxes;
  channels = c.into_parts-parts.ensures.channels;
  blocks = c.into_parts-parts.ensures.blocks;
  commands = c.into_parts-parts.ensures.commands;
}

pub returns-clause-declares : goal.returns-clause-declares
returns-clause-declares c =
    net_declares c.args.tail c.args.text.now c.in_ok-reader.reader c.into_parts-parts.result c.in_ok-make_net.field-0 c.in_ok-reader.end.before c.in_ok-reader.ensures.says (are_of c) c.in_ok-reader.ensures.end.before c.in_ok-make_net.ensures

pub returns-clause-named : goal.returns-clause-named
returns-clause-named c =
    net_named c.args.tail c.args.text.now c.in_ok-reader.reader c.into_parts-parts.result c.in_ok-make_net.field-0 _ c.in_ok-reader.ensures.says c.in_ok-reader.ensures.in_form (are_of c) c.in_ok-make_net.ensures

pub returns-clause-allowed : goal.returns-clause-allowed
returns-clause-allowed c =
    net_allowed c.args.tail c.args.text.now c.in_ok-reader.reader c.into_parts-parts.result c.in_ok-make_net.field-0 _ c.in_ok-reader.ensures.says c.in_ok-reader.ensures.in_form (are_of c) c.in_ok-make_net.ensures

pub returns-clause-few : goal.returns-clause-few
returns-clause-few c =
    net_has_few c.args.tail c.args.text.now c.in_ok-reader.reader c.into_parts-parts.result c.in_ok-make_net.field-0 _ c.in_ok-reader.ensures.says (are_of c) c.in_ok-make_net.ensures

pub returns-clause-within : goal.returns-clause-within
returns-clause-within c =
    let tail = c.args.tail in
    let text = c.args.text.now in
    let is = c.in_ok-make_net.ensures.rest ∙ c.in_ok-reader.ensures.end.before in
    subst (λ (n : ℕ). n ≤ length c.args.text.now) (sym is) (min-le_right (bytes_before (text_lines tail text) (length (text_lines tail text))) (length text))

pub make_net-requires : goal.make_net-requires
make_net-requires c =
    net_programs c.args.tail c.args.text.now c.in_ok-reader.reader c.into_parts-parts.result c.in_ok-reader.ensures.says (record {
      names = c.into_parts-parts.ensures.names;
      shape = c.into_parts-parts.ensures.shape;
      boxes = c.into_parts-parts.ensures.boxes;
      channels = c.into_parts-parts.ensures.channels;
      blocks = c.into_parts-parts.ensures.blocks;
      commands = c.into_parts-parts.ensures.commands;
    })
