use Rattle.std.proofs.Common.{◌≡◌, [], sym, arith, slice_index_or}
use Rattle.mc_text.specs.NameLists.{AreNames}
use Rattle.mc_text.proofs.Places.{found_again, index-get}
use Rattle.mc_text.proofs.name_list.NameList.name.Goals as goal

-- the name that is lent is the one with the number
is : (c : goal.After-unwrap) → slice_index_or c.args.self.now c.args.number [] ≡ c.unwrap.result.now
is c = index-get c.args.self.now c.args.number c.unwrap.result.now c.requires (grind (arith, c.get.ensures, c.unwrap.ensures))

-- the list keeps its law
are : (c : goal.After-unwrap) → AreNames c.args.self.now
are c = rw (← c.self.view_is) c.self.invariant

pub returns-clause-found : goal.returns-clause-found
returns-clause-found c = rw (← is c) (found_again c.args.self.now c.args.number c.requires (are c))

pub returns-clause-spelt : goal.returns-clause-spelt
returns-clause-spelt c = rw (← is c) ((are c).spelt c.args.number c.requires)

pub returns-clause-name : goal.returns-clause-name
returns-clause-name c = sym (is c)
