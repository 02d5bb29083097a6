use Rattle.mc_lines.proofs.reader.Reader.read_kind.Goals as goal

pub returns-in-Codec-clause-declared : goal.returns-in-Codec-clause-declared
returns-in-Codec-clause-declared c = rw c.in-Codec.is c.read_codec.ensures.declared

pub returns-in-Codec-clause-in_form : goal.returns-in-Codec-clause-in_form
returns-in-Codec-clause-in_form c = c.read_codec.ensures.in_form

pub returns-in-Dev-clause-declared : goal.returns-in-Dev-clause-declared
returns-in-Dev-clause-declared c = rw c.in-Dev.is c.read_device.ensures.declared

pub returns-in-Dev-clause-in_form : goal.returns-in-Dev-clause-in_form
returns-in-Dev-clause-in_form c = c.read_device.ensures.in_form

pub returns-in-Feat-clause-declared : goal.returns-in-Feat-clause-declared
returns-in-Feat-clause-declared c = rw c.in-Feat.is c.read_feature.ensures.declared

pub returns-in-Feat-clause-in_form : goal.returns-in-Feat-clause-in_form
returns-in-Feat-clause-in_form c = c.read_feature.ensures.in_form

pub returns-in-Send-clause-declared : goal.returns-in-Send-clause-declared
returns-in-Send-clause-declared c = rw c.in-Send.is c.read_send.ensures.declared

pub returns-in-Send-clause-in_form : goal.returns-in-Send-clause-in_form
returns-in-Send-clause-in_form c = c.read_send.ensures.in_form

pub returns-in-Chan-clause-declared : goal.returns-in-Chan-clause-declared
returns-in-Chan-clause-declared c = rw c.in-Chan.is c.read_channel.ensures.declared

pub returns-in-Chan-clause-in_form : goal.returns-in-Chan-clause-in_form
returns-in-Chan-clause-in_form c = c.read_channel.ensures.in_form

pub returns-in-Also-clause-declared : goal.returns-in-Also-clause-declared
returns-in-Also-clause-declared c = rw c.in-Also.is c.read_also.ensures.declared

pub returns-in-Also-clause-in_form : goal.returns-in-Also-clause-in_form
returns-in-Also-clause-in_form c = c.read_also.ensures.in_form

pub returns-in-Prog-clause-declared : goal.returns-in-Prog-clause-declared
returns-in-Prog-clause-declared c = rw c.in-Prog.is c.read_program.ensures.declared

pub returns-in-Prog-clause-in_form : goal.returns-in-Prog-clause-in_form
returns-in-Prog-clause-in_form c = c.read_program.ensures.in_form

pub returns-in-State-clause-declared : goal.returns-in-State-clause-declared
returns-in-State-clause-declared c = rw c.in-State.is c.read_state.ensures.declared

pub returns-in-State-clause-in_form : goal.returns-in-State-clause-in_form
returns-in-State-clause-in_form c = c.read_state.ensures.in_form

pub returns-in-Goal-clause-declared : goal.returns-in-Goal-clause-declared
returns-in-Goal-clause-declared c = rw c.in-Goal.is c.read_goal.ensures.declared

pub returns-in-Goal-clause-in_form : goal.returns-in-Goal-clause-in_form
returns-in-Goal-clause-in_form c = c.read_goal.ensures.in_form

pub returns-in-When-clause-declared : goal.returns-in-When-clause-declared
returns-in-When-clause-declared c = rw c.in-When.is c.read_when.ensures.declared

pub returns-in-When-clause-in_form : goal.returns-in-When-clause-in_form
returns-in-When-clause-in_form c = c.read_when.ensures.in_form

pub returns-in-Begin-clause-declared : goal.returns-in-Begin-clause-declared
returns-in-Begin-clause-declared c = rw c.in-Begin.is c.read_begin.ensures.declared

pub returns-in-Begin-clause-in_form : goal.returns-in-Begin-clause-in_form
returns-in-Begin-clause-in_form c = c.read_begin.ensures.in_form

pub returns-in-Journal-clause-declared : goal.returns-in-Journal-clause-declared
returns-in-Journal-clause-declared c = rw c.in-Journal.is c.read_journal.ensures.declared

pub returns-in-Journal-clause-in_form : goal.returns-in-Journal-clause-in_form
returns-in-Journal-clause-in_form c = c.read_journal.ensures.in_form

pub returns-in-Command-clause-declared : goal.returns-in-Command-clause-declared
returns-in-Command-clause-declared c = rw c.in-Command.is c.read_command_word.ensures.declared

pub returns-in-Command-clause-in_form : goal.returns-in-Command-clause-in_form
returns-in-Command-clause-in_form c = c.read_command_word.ensures.in_form
