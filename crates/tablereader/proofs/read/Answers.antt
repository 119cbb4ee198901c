-- `read` meets its contract: it is the definition, with what the calls ensure. Assumes nothing.
use mathlib.Core.Path.{◌≡◌, refl, sym, subst}
use Rattle.std.proofs.Common.{rules}
use Rattle.transducer.specs.Valid.{Valid}
use Rattle.transducer.specs.declared.Transducer.{Transducer}
use Rattle.tablereader.specs.Header.{header_of}
use Rattle.tablereader.specs.Reader.{starts_of, finals_of, transitions_of, outcome_with, records_with, table_with, read_of}
use Rattle.tablereader.proofs.HeaderRecord.{counted}
use Rattle.tablereader.proofs.Validity.{records_valid}
use Rattle.tablereader.proofs.read.Goals as goal
use Rattle.tablereader.proofs.read.Goals.{After-and-4, After-empty}

-- the outcome is that of the definition
outcome_read : (c : After-and-4) → c.and-4.result ≡ outcome_with c.args.text.now (header_of c.args.text.now)
unfolding outcome_with starts_of finals_of transitions_of
outcome_read c =
    rw (← c.read_header-counts.ensures.value)
    (simp (
      c.and-4.ensures,
      c.and-3.ensures,
      c.and-2.ensures,
      c.and.ensures,
      c.outcome_of-2.ensures,
      c.outcome_of.ensures,
      c.end_fault-end.ensures,
      c.read_transitions-rest.ensures,
      c.read_states-finals.ensures,
      c.read_states-starts.ensures,
    ))

-- what was read of the records, where nothing is refused
abbrev given : After-empty → Transducer
given c =
    let counts = c.read_header-counts.result in
    record {
      states = counts.states;
      starts = c.read_states-starts.result.set;
      finals = c.read_states-finals.result.set;
      count = counts.transitions;
      transitions = c.read_transitions-rest.result.transitions;
      useful = c.empty.result;
    }

-- it is what the definition has of them
records_read : (c : After-empty) → given c ≡ records_with c.args.text.now (header_of c.args.text.now)
unfolding records_with starts_of finals_of transitions_of
records_read c =
    rw (← c.read_header-counts.ensures.value)
    (simp (c.read_transitions-rest.ensures, c.read_states-finals.ensures, c.read_states-starts.ensures, c.empty.ensures))

pub keep-requires : goal.keep-requires
keep-requires c =
    let text = c.args.text.now in
    subst Valid (sym (records_read c)) (records_valid text (header_of text) (counted text (header_of text) refl))

pub returns-in_err-and : goal.returns-in_err-and
unfolding read_of
returns-in_err-and c =
    let was = c.in_err-and.was in
    rw (← outcome_read (goal.at.returns-in_err-and c).After-and-4, was) (search rules)

pub returns : goal.returns
unfolding read_of table_with
returns c =
    let was = c.in_ok-and.was in
    rw (
      ← outcome_read (goal.at.returns c).After-and-4,
      ← records_read (goal.at.returns c).After-empty,
      c.keep.ensures,
      was,
    )
