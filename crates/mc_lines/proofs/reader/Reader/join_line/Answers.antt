use Rattle.std.proofs.Common.{◌≡◌, Bool, Some, None, Ok, Err, ap, sym, ◌∙◌}
use Rattle.std.proofs.lemmas.Result.{err_from_is_err_and}
use Rattle.mc_script.specs.Rules.{least_broken}
use Rattle.mc_lines.specs.Joins.{among_channels, check_joins, names_programmed}
use Rattle.mc_lines.specs.Rules.{channel_rules, is_pending}
use Rattle.mc_lines.proofs.AlsoBroken.{as_channel, join_refused, joins_kept, joins_refused}
use Rattle.mc_lines.proofs.reader.Reader.join_line.Goals as goal

pub returns-in-Err-clause-read : goal.returns-in-Err-clause-read
returns-in-Err-clause-read c =
    let own : least_broken (channel_rules (among_channels c.args.self.now) c.args.words) ≡ Some c.in-Err.fault.number =
    ap least_broken (sym (as_channel c.args.self.now c.args.words c.requires.among)) ∙ c.in-Err.ensures.read in
    let programmed : c.names_programmed-programmed.result ≡ names_programmed c.args.self.now c.args.words = c.names_programmed-programmed.ensures ∙ ap (names_programmed c.args.self.now) c.again.ensures in
    rw (c.lesser.ensures, programmed) (join_refused c.args.self.now c.args.words c.in-Err.fault.number own)

pub returns-in_err-check_joins-clause-read : goal.returns-in_err-check_joins-clause-read
returns-in_err-check_joins-clause-read c =
    let own : least_broken (channel_rules (among_channels c.args.self.now) c.args.words) ≡ None =
    ap least_broken (sym (as_channel c.args.self.now c.args.words c.requires.among)) ∙ c.in-Ok.ensures.read.0 in
    let programmed : c.names_programmed-programmed.result ≡ names_programmed c.args.self.now c.args.words = c.names_programmed-programmed.ensures ∙ ap (names_programmed c.args.self.now) c.again.ensures in
    let checked : check_joins (names_programmed c.args.self.now c.args.words) (is_pending c.args.self.now.commands) ≡ Err c.in_err-check_joins.field-0.0 = ap (λ (b : Bool). check_joins b (is_pending c.args.self.now.commands)) (sym programmed) ∙ sym c.in_err-check_joins.ensures in
    let fault = err_from_is_err_and c.from_residual.result c.from_residual.ensures.1 in
    rw (fault.1, fault.2) (joins_refused c.args.self.now c.args.words c.in_err-check_joins.field-0.0 own checked)

pub returns-clause-read : goal.returns-clause-read
returns-clause-read c =
    let own : least_broken (channel_rules (among_channels c.args.self.now) c.args.words) ≡ None =
    ap least_broken (sym (as_channel c.args.self.now c.args.words c.requires.among)) ∙ c.in-Ok.ensures.read.0 in
    let programmed : c.names_programmed-programmed.result ≡ names_programmed c.args.self.now c.args.words = c.names_programmed-programmed.ensures ∙ ap (names_programmed c.args.self.now) c.again.ensures in
    let checked : check_joins (names_programmed c.args.self.now c.args.words) (is_pending c.args.self.now.commands) ≡ Ok tt = ap (λ (b : Bool). check_joins b (is_pending c.args.self.now.commands)) (sym programmed) ∙ sym c.in_ok-check_joins.ensures in
    (joins_kept c.args.self.now c.args.words own checked, c.in-Ok.ensures.read.1)
