-- How lines were answered, by their replies and by the counts of the die before and after each.
use Rattle.std.specs.Prelude.{ℕ, ◌-◌, max}
use Rattle.cell_die.specs.Counts.{raised, count_sum}
use Rattle.count_die.specs.declared.tally.Totals.{Totals}
use Rattle.rssd_script.specs.declared.replies.Reply.{Reply}
use Rattle.rssd_script.specs.declared.replies.Reply.TheVariants.{First, Second, Declined, Bytes, Done, Moves}
use Rattle.lab_tables.specs.declared.answers.Met.{Met}
use Rattle.lab_tables.specs.declared.answers.Answers.{Answers}

-- the change calls between two counts of a die
abbrev pub changes_between : Totals → Totals → ℕ
changes_between before now = count_sum (count_sum (now.programs - before.programs) (now.charges - before.charges)) (now.erases - before.erases)

-- one line more of a kind, which took the die from the one count to the other
abbrev pub met_more : Totals → Totals → Met → Met
met_more before now met = record {
  count = raised met.count;
  changes = max met.changes (changes_between before now);
  reads = max met.reads (now.reads - before.reads);
}

abbrev pub no_line : Met
no_line = record { count = 0; changes = 0; reads = 0 }

-- no line was answered yet
abbrev pub no_answers : Answers
no_answers = record {
  lines = 0;
  first = no_line;
  second = no_line;
  declined = no_line;
  read = no_line;
  trim = no_line;
  idle = no_line;
  other = no_line;
}

-- a line more was answered so
abbrev pub answered_more : Totals → Totals → Answers → Reply → Answers
answered_more before now a First = record a { lines = raised a.lines; first = met_more before now a.first }
answered_more before now a Second = record a { lines = raised a.lines; second = met_more before now a.second }
answered_more before now a Declined = record a { lines = raised a.lines; declined = met_more before now a.declined }
answered_more before now a (Bytes bytes) = record a { lines = raised a.lines; read = met_more before now a.read }
answered_more before now a Done = record a { lines = raised a.lines; trim = met_more before now a.trim }
answered_more before now a (Moves n) = record a { lines = raised a.lines; idle = met_more before now a.idle }
answered_more before now a _ = record a { lines = raised a.lines; other = met_more before now a.other }

-- how many writes were placed
abbrev pub writes_of : Answers → ℕ
writes_of a = count_sum (count_sum a.first.count a.second.count) a.declined.count
