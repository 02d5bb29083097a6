use Rattle.std.proofs.Common.{◌≡◌, ◌+◌, ◌∙◌, ℕ, List, ap, length, take}
use Rattle.std.proofs.lemmas.List.{take_min}
use Rattle.mc_journal.specs.Places.{line_place}
use Rattle.mc_journal.specs.Readings.{readings}
use Rattle.mc_text.specs.Lines.{lines}
use Rattle.mc_call.specs.Behind.{journal_bytes}
use Rattle.mc_call.proofs.behind.journal_line.Goals as goal

pub returns : goal.returns
returns c =
    let declaring : c.line_count-declaring.result ≡ length (lines (take c.args.rest c.args.text.now)) =
    c.line_count-declaring.ensures.count ∙ ap (λ (bytes : List ℕ). length (lines bytes)) (ap (λ (n : ℕ). take n c.args.text.now) c.min.ensures ∙ take_min c.args.rest c.args.text.now) in
    let place : c.line_place-place.result ≡ line_place (readings c.args.names.now c.args.shape.now (journal_bytes c.args.text.now c.args.rest)) c.args.before =
    c.line_place-place.ensures.place ∙ ap (λ (bytes : List ℕ). line_place (readings c.args.names.now c.args.shape.now bytes) c.args.before) c.journal_bytes.ensures.bytes in
    ap (λ (n : ℕ). n + c.line_place-place.result + 1) declaring ∙ ap (λ (n : ℕ). length (lines (take c.args.rest c.args.text.now)) + n + 1) place
