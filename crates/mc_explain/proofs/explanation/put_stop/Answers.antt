use Rattle.std.proofs.Common.{◌++◌, ◌∙◌, List, ℕ, ap}
use Rattle.mc_explain.proofs.Faults.{told_stop}
use Rattle.mc_explain.proofs.explanation.put_stop.Goals as goal

pub returns : goal.returns
returns c =
    told_stop c.args.settle c.args.out.now.items c.args.place.now c.args.why.now c.as_bytes.result.now c.extend_from_slice.new.self.items c.extend_from_slice-2.new.self.items
    c.extend_from_slice-3.new.self.items c.extend_from_slice-4.new.self.items c.push.new.self.items
    (c.as_bytes.ensures.value ∙ c.in_ok-head.ensures.ok) c.in_ok-extend_from_slice.ensures.items c.in_ok-extend_from_slice-2.ensures.items c.in_ok-extend_from_slice-3.ensures.items
    (c.in_ok-extend_from_slice-4.ensures.items ∙ ap (λ (why : List ℕ). c.extend_from_slice-3.new.self.items ++ why) c.as_bytes-2.ensures.value) c.in_ok-push.ensures.items
