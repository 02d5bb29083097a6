use Rattle.std.proofs.Common.{◌∙◌, List, ℕ, length, ap, sym}
use Rattle.mc_entry.specs.Wire.{entry_wire}
use Rattle.mc_entry.proofs.Beginning.{form_is, form_not, form_within}
use Rattle.mc_entry.proofs.whole.form_len.Goals as goal

pub returns-then-starts_with : goal.returns-then-starts_with
returns-then-starts_with c =
    let long = c.len.ensures ∙ (sym c.deref.ensures.len ∙ ap (λ (l : List ℕ). length l) c.deref.ensures.value) in (
      form_within c.args.bytes.now c.write_entry.new.out.items c.deref.result.now c.starts_with.result c.len.result c.deref.ensures.value c.starts_with.ensures.value long c.if-starts_with.true,
      form_is c.args.bytes.now c.write_entry.new.out.items c.new-form.result.items c.deref.result.now (entry_wire c.args.entry.now) c.starts_with.result c.len.result
          c.new-form.ensures.items c.deref.ensures.value c.in_ok-write_entry.ensures c.starts_with.ensures.value long c.if-starts_with.true,
    )

pub returns : goal.returns
returns c more form = form_not c.args.bytes.now c.write_entry.new.out.items c.new-form.result.items c.deref.result.now (entry_wire c.args.entry.now) c.starts_with.result more c.new-form.ensures.items c.deref.ensures.value c.in_ok-write_entry.ensures c.starts_with.ensures.value c.if-starts_with.false form
