use Rattle.std.proofs.Common.{sym}
use Rattle.mc_explain.proofs.explanation.put_shown.Goals as goal

pub returns-in-FaultyText : goal.returns-in-FaultyText
returns-in-FaultyText c = rw (c.in-FaultyText.is, sym c.deref.ensures.value) c.put_text_shown.ensures
