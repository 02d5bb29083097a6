use Rattle.std.proofs.Common.{◌≡◌, ◌∙◌, ap, ap₂, codes, rules, true}
use Rattle.std.proofs.lemmas.Result.{IfOk-weaker}
use Rattle.clap.specs.Words.{App, app_of, new_app, new_rule, rule_of, with_rule}
use Rattle.clap.specs.Simple.{app_of_fields, on_top}
use Rattle.clap.specs.declared.builder.command.Command.{Command}
use Rattle.clap.specs.declared.builder.command.Command.TheViews.{out-Command}
use Rattle.mc_words.specs.Parser.{journal_rule}
use Rattle.mc_words.proofs.parser.words_command.Goals as goal

abbrev unnamed : App → App
unnamed = on_top (λ s. record s { no_binary_name = true })

abbrev helpless : App → App
helpless = on_top (λ s. record s { disable_help_flag = true })

is_unnamed : (old new : Command) → out-Command new ≡ record (out-Command old) { no_binary_name = true } → app_of new ≡ unnamed (app_of old)
is_unnamed old new e = ap app_of_fields e

is_helpless : (old new : Command) → out-Command new ≡ record (out-Command old) { disable_help_flag = true } → app_of new ≡ helpless (app_of old)
is_helpless old new e = ap app_of_fields e

abbrev bare : App
bare = helpless (unnamed (new_app (codes "mediactl")))

pub returns : goal.returns
returns c =
    let journal : rule_of c.action-journal.result ≡ journal_rule = search rules in
    let first : rule_of c.new-3.result ≡ new_rule (codes "first") = search rules in
    let second : rule_of c.new-4.result ≡ new_rule (codes "second") = search rules in
    let third : rule_of c.new-5.result ≡ new_rule (codes "third") = search rules in
    let begun : app_of c.disable_help_flag.result ≡ bare = is_helpless _ _ c.disable_help_flag.ensures
    ∙ ap helpless (is_unnamed _ _ c.no_binary_name.ensures ∙ ap unnamed c.new-2.ensures.app) in
    let one : app_of c.in_ok-arg.field-0 ≡ with_rule bare journal_rule = c.in_ok-arg.ensures.shape (search rules) ∙ ap₂ with_rule begun journal in
    let two : app_of c.in_ok-arg-2.field-0 ≡ with_rule (with_rule bare journal_rule) (new_rule (codes "first")) = c.in_ok-arg-2.ensures.shape (search rules) ∙ ap₂ with_rule one first in
    let three : app_of c.in_ok-arg-3.field-0 ≡ with_rule (with_rule (with_rule bare journal_rule) (new_rule (codes "first"))) (new_rule (codes "second")) =
    c.in_ok-arg-3.ensures.shape (search rules) ∙ ap₂ with_rule two second in
    IfOk-weaker c.arg-4.result _ _ (λ r h. h.shape (search rules) ∙ ap₂ with_rule three third) c.arg-4.ensures
