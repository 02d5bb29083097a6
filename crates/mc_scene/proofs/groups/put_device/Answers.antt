use Rattle.std.proofs.Common.{◌++◌, ◌∙◌, arith, decimal, string_bytes}
use Rattle.std.proofs.lemmas.Grind.{common_steps}
use Rattle.mc_scene.proofs.Devices.{device_done}
use Rattle.mc_scene.proofs.Numbered.{each_more}
use Rattle.mc_scene.proofs.Outcomes.{on_ok}
use Rattle.mc_scene.proofs.groups.put_device.Goals as goal

pub loop-place-preserved : goal.loop-place-preserved
loop-place-preserved c = grind (arith, common_steps, each_more)

pub returns : goal.returns
returns c =
    on_ok c.writeln.result
    (λ ends. ends ∙ device_done c.args.codecs (string_bytes c.args.text.now) (c.args.side.now ++ decimal c.args.number) (string_bytes c.write.new.self) (string_bytes c.loop-place.text) c.loop-place.place (omega (arith, c.loop-place-test.false)) (omega (arith, c.loop-place.auto.place-end)) c.in_ok-write.ensures.bytes c.loop-place.invariant)
    c.writeln.ensures.bytes
