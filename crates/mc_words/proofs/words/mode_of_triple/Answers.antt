use Rattle.std.proofs.Common.{◌≡◌, codes, rules}
use Rattle.mc_words.proofs.OneMode.{no_number, no_size}
use Rattle.mc_words.proofs.words.mode_of_triple.Goals as goal

pub returns-in_err-number-clause-none : goal.returns-in_err-number-clause-none
returns-in_err-number-clause-none c =
    let is : c.args.first.now ≡ codes "gen" = search rules in
    rw c.from_residual.ensures (no_number c.args.first.now c.args.second.now c.args.third.now c.args.journal is c.in_err-number.ensures.none)

pub returns-in_err-size-clause-none : goal.returns-in_err-size-clause-none
returns-in_err-size-clause-none c =
    let is : c.args.first.now ≡ codes "gen" = search rules in
    rw c.from_residual-in_err-size.ensures (no_size c.args.first.now c.args.second.now c.args.third.now c.args.journal is c.in_err-size.ensures.none)
