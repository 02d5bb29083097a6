use Rattle.std.proofs.Common.{map, sym, subst}
use Rattle.mc_script.specs.Places.{Fits}
use Rattle.mc_program_lines.specs.Programs.{FitsBox}
use Rattle.mc_lines.specs.BoxLines.{box_seen}
use Rattle.mc_lines.specs.Forms.{NamesEach}
use Rattle.mc_lines.specs.SoFar.{Declared}
use Rattle.mc_lines.proofs.Blocks.{fits_program, pushed_is_open}
use Rattle.mc_lines.proofs.reader.Reader.read_program.Goals as goal

pub returns-clause-in_form : goal.returns-clause-in_form
returns-clause-in_form c =
    let fits : Fits c.self.inside.names c.self.inside.shape = subst (λ (d : Declared). Fits d.names d.shape) (sym c.self.view_is) c.requires.fits in
    let block : FitsBox c.self.inside.names c.in_ok-block.block = rw (c.in_ok-block.ensures, c.next_word.ensures.rest, ← c.again.ensures) c.in_ok-who.ensures.fits in
    let named : NamesEach c.self.inside.names (map box_seen c.self.inside.plan.boxes) c.self.inside.plan.channels = subst (λ (d : Declared). NamesEach d.names d.boxes d.channels) (sym c.self.view_is) c.requires.named in
    record {
      named = named;
      fits = rw c.set_programmed.ensures (fits_program c.self.inside.names c.self.inside.shape c.in_ok-who.who fits);
      block = pushed_is_open c.self.inside.names c.self.inside.blocks.items _ c.in_ok-block.block c.in_ok-push.ensures.items block;
    }
