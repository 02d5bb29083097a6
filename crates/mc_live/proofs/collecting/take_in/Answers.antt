use Rattle.std.proofs.Common.{rules, ◌≡◌, false}
use Rattle.mc_live.proofs.Stepping.{ends_counted, takes_on}
use Rattle.mc_live.specs.Courses.{TakesIn, is_refused}
use Rattle.mc_live.proofs.collecting.take_in.Goals as goal

pub keep-requires-clause-few : goal.keep-requires-clause-few
keep-requires-clause-few c =
    let not : is_refused c.args.course.now.pace ≡ false = search rules in
    ends_counted c.requires.0 c.args.worker.now c.requires.1 c.requires.2 c.requires.3 c.args.course.now not c.requires.4

pub returns-in_default-clause-on : goal.returns-in_default-clause-on
returns-in_default-clause-on c a asked sent took on =
    let not : is_refused c.args.course.now.pace ≡ false = search rules in
    let takes : TakesIn c.args.request c.args.worker.now c.keep.new.worker c.args.course.now c.keep.new.course = search rules in
    takes_on c.join_accounts.ensures a c.args.worker.now c.keep.new.worker asked sent took c.args.request c.args.course.now c.keep.new.course not takes c.keep.ensures.ready on
