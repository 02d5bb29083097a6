use Rattle.std.proofs.Common.{◌≡◌, ◌∙◌, ap, ap₂, codes, rules, true}
use Rattle.std.proofs.lemmas.Result.{IfOk-weaker}
use Rattle.clap.specs.Words.{App, app_of, new_app, rule_of, with_rule}
use Rattle.clap.specs.Simple.{app_of_fields, on_top}
use Rattle.clap.specs.declared.builder.command.Command.{Command}
use Rattle.clap.specs.declared.builder.command.Command.TheViews.{out-Command}
use Rattle.mc_ladder_top.specs.Words.{flag, valued}
use Rattle.mc_ladder_top.proofs.words.ladder_command.Goals as goal

abbrev unnamed : App → App
unnamed = on_top (λ s. record s { no_binary_name = true })

abbrev helpless : App → App
helpless = on_top (λ s. record s { disable_help_flag = true })

is_unnamed : (old new : Command) → out-Command new ≡ record (out-Command old) { no_binary_name = true } → app_of new ≡ unnamed (app_of old)
is_unnamed old new e = ap app_of_fields e

is_helpless : (old new : Command) → out-Command new ≡ record (out-Command old) { disable_help_flag = true } → app_of new ≡ helpless (app_of old)
is_helpless old new e = ap app_of_fields e

abbrev bare : App
bare = helpless (unnamed (new_app (codes "medialadder")))

abbrev forms : App
forms = with_rule (with_rule (with_rule bare (flag (codes "ascii"))) (flag (codes "svg"))) (flag (codes "html"))

abbrev flags : App
flags = with_rule forms (flag (codes "up-to-fault"))

pub returns : goal.returns
returns c =
    let ascii : rule_of c.flag-ascii.result ≡ flag (codes "ascii") = c.flag-ascii.ensures.rule in
    let svg : rule_of c.flag-svg.result ≡ flag (codes "svg") = c.flag-svg.ensures.rule in
    let html : rule_of c.flag-html.result ≡ flag (codes "html") = c.flag-html.ensures.rule in
    let up_to_fault : rule_of c.flag-up_to_fault.result ≡ flag (codes "up-to-fault") = c.flag-up_to_fault.ensures.rule in
    let settles : rule_of c.valued-settles.result ≡ valued (codes "settles") = c.valued-settles.ensures.rule in
    let boxes : rule_of c.valued-boxes.result ≡ valued (codes "box") = c.valued-boxes.ensures.rule in
    let begun : app_of c.disable_help_flag.result ≡ bare = is_helpless _ _ c.disable_help_flag.ensures
    ∙ ap helpless (is_unnamed _ _ c.no_binary_name.ensures ∙ ap unnamed c.new.ensures.app) in
    let one : app_of c.in_ok-arg.field-0 ≡ with_rule bare (flag (codes "ascii")) = c.in_ok-arg.ensures.shape (search rules) ∙ ap₂ with_rule begun ascii in
    let two : app_of c.in_ok-arg-2.field-0 ≡ with_rule (with_rule bare (flag (codes "ascii"))) (flag (codes "svg")) = c.in_ok-arg-2.ensures.shape (search rules) ∙ ap₂ with_rule one svg in
    let three : app_of c.in_ok-arg-3.field-0 ≡ forms = c.in_ok-arg-3.ensures.shape (search rules) ∙ ap₂ with_rule two html in
    let four : app_of c.in_ok-arg-4.field-0 ≡ flags = c.in_ok-arg-4.ensures.shape (search rules) ∙ ap₂ with_rule three up_to_fault in
    let five : app_of c.in_ok-arg-5.field-0 ≡ with_rule flags (valued (codes "settles")) = c.in_ok-arg-5.ensures.shape (search rules) ∙ ap₂ with_rule four settles in
    IfOk-weaker c.arg-6.result _ _ (λ r h. h.shape (search rules) ∙ ap₂ with_rule five boxes) c.arg-6.ensures
