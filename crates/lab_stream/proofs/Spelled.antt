-- The bytes of lines that came one after another are a script of them.
use Rattle.std.proofs.Common.{◌≡◌, ◌⊎◌, inl, inr, ℕ, ◌+◌, ◌-◌, ◌^◌, ◌<◌, ◌≤◌, List, [], ◌∷◌, ◌++◌, length, refl, ap, sym, ◌∙◌, subst, arith, append_assoc, append-nil, length-append}
use Rattle.std.specs.Prelude.{min}
use Rattle.std.specs.List.{AllZip}
use Rattle.rssd_io.specs.Event.{Event, HasEnded, moved, bytes_of, failures}
use Rattle.rssd_io.specs.Faults.{raised}
use Rattle.rssd_io.proofs.Logs.{came_behind, failures_append, bytes_append, since_is}
use Rattle.rssd_script.specs.declared.lines.Line.{Line}
use Rattle.rssd_script.specs.Script.{Spells, IsScript, FirstBadLine, line_text, script_text, text_lines}
use Rattle.rssd_script.specs.Scripts.{Whole}
use Rattle.rssd_script.specs.Reading.{Lacks, SpellsNone}
use Rattle.rssd_script.proofs.Texts.{no_cut}
use Rattle.rssd_script.proofs.Cuts.{text_lines-cut, text_lines-last, length-line, whole_none, whole_more, broken_line, broken_long, end_bad}
use Rattle.lab_lines.specs.Given.{AllGiven}
use Rattle.lab_stream.specs.declared.stream.Stream.{Stream}
use Rattle.lab_stream.specs.Texts.{IsEnded, IsText, ReadsNone}
use Rattle.lab_stream.specs.Streaming.{ahead_of, lines_of, TakesText, TakesLine, HasText}
use Rattle.lab_stream.specs.Spelled.{EndsOnce, AreLines, Streamed, StreamedBad}

-- ---- an end of the input among events

-- what holds of all events holds of those behind some
later : (events more : List Event) → EndsOnce (events ++ more) → EndsOnce more
later events more once front back is =
    once (events ++ front) back (ap (λ (rest : List Event). events ++ rest) is ∙ sym (append_assoc events front (moved [] ∷ back)))

none_left : (xs ys : List ℕ) → [] ≡ xs ++ ys → xs ≡ []
none_left [] ys e = refl
none_left (x ∷ xs) ys e = absurd cc

-- no byte is left where the input ended
behind_end : (events more front : List Event) → events ≡ front ++ moved [] ∷ [] → EndsOnce (events ++ more) → bytes_of more ≡ []
behind_end events more front is once = once front more (ap (λ (first : List Event). first ++ more) is ∙ append_assoc front (moved [] ∷ []) more)

-- ---- texts of lines, one before the others

no_lines : (lines : List Line) → IsScript [] lines → lines ≡ []
unfolding text_lines
no_lines [] script = refl
no_lines (line ∷ lines) script = absurd script

first_spelled : (front : List ℕ) (line : Line) → AllZip Spells (front ∷ []) (line ∷ []) → Spells front line
first_spelled front line zip = zip.0

spelled_alone : (text front : List ℕ) (line : Line) → text_lines text ≡ front ∷ [] → IsScript text (line ∷ []) → Spells front line
spelled_alone text front line is script = first_spelled front line (subst (λ (texts : List (List ℕ)). AllZip Spells texts (line ∷ [])) is script)

-- a text with its line feed, and others behind it
ended_first : (text more : List ℕ) (line : Line) (lines : List Line) → IsEnded text → IsScript text (line ∷ []) → IsScript more lines → IsScript (text ++ more) (line ∷ lines)
unfolding text_lines
ended_first text more line lines ended reads script =
    let alone : text_lines text ≡ ended.front ∷ [] = ap text_lines ended.is ∙ text_lines-cut ended.front [] ended.no_feed in
    let cut : text_lines (text ++ more) ≡ ended.front ∷ text_lines more =
    ap text_lines (ap (λ (first : List ℕ). first ++ more) ended.is ∙ append_assoc ended.front (10 ∷ []) more) ∙ text_lines-cut ended.front more ended.no_feed in
    let zip : AllZip Spells (ended.front ∷ text_lines more) (line ∷ lines) = (spelled_alone text ended.front line alone reads, script) in
    subst (λ (texts : List (List ℕ)). AllZip Spells texts (line ∷ lines)) (sym cut) zip

-- a text without it, behind which nothing comes
last_first : (text more : List ℕ) (line : Line) (lines : List Line) → more ≡ [] → IsScript text (line ∷ []) → IsScript more lines → IsScript (text ++ more) (line ∷ lines)
last_first text more line lines none reads script =
    let no_more : lines ≡ [] = no_lines lines (subst (λ (rest : List ℕ). IsScript rest lines) none script) in
    let all : text ≡ text ++ more = sym (ap (λ (rest : List ℕ). text ++ rest) none ∙ append-nil text) in
    subst (λ (rest : List Line). IsScript (text ++ more) (line ∷ rest)) (sym no_more) (subst (λ (whole : List ℕ). IsScript whole (line ∷ [])) all reads)

-- a whole line, and others behind it
whole_first : (text more : List ℕ) (line : Line) (lines : List Line) → IsEnded text → IsScript text (line ∷ []) → Whole more lines [] → Whole (text ++ more) (line ∷ lines) []
unfolding text_lines
whole_first text more line lines ended reads whole =
    let alone : text_lines text ≡ ended.front ∷ [] = ap text_lines ended.is ∙ text_lines-cut ended.front [] ended.no_feed in
    let spells : Spells ended.front line = spelled_alone text ended.front line alone reads in
    let first : text ≡ line_text line ++ 10 ∷ [] = ended.is ∙ ap (λ (front : List ℕ). front ++ 10 ∷ []) spells.1 in
    record {
      within = (spells.0, whole.within);
      is = (λ i. first i ++ whole.is i) ∙ sym (append_assoc (line_text line ++ 10 ∷ []) (script_text lines) []);
      no_feed = tt;
    }

some_text : (text : List ℕ) → IsText text → 0 < length text
some_text text (inl ended) = omega (arith, ap length ended.is, length-append ended.front (10 ∷ []))
some_text text (inr begun) = begun.1

-- a text that spells no line has a line that spells none
none_spelled : (text front : List ℕ) → ReadsNone text → text_lines text ≡ front ∷ [] → length text ≤ length front + 1 → SpellsNone front
none_spelled text front none is short line spells =
    let zip : AllZip Spells (front ∷ []) (line ∷ []) = (spells, tt) in
    none line (omega (arith, length-line line spells.0, ap length spells.1), subst (λ (texts : List (List ℕ)). AllZip Spells texts (line ∷ [])) (sym is) zip)

begun_bad : (front : List ℕ) (lines : List Line) (text ahead : List ℕ) → Lacks 10 text → 0 < length text → ReadsNone text → Whole front lines [] → IsEnded text ⊎ (ahead ≡ []) ⊎ (1049 < length text)
    → FirstBadLine (front ++ (text ++ ahead)) (length lines + 1)
begun_bad front lines text ahead lacks some none whole (inl ended) = absurd (no_cut 10 text ended.front [] lacks ended.is)
begun_bad front lines text ahead lacks some none whole (inr (inl no_more)) =
    let spells_none : SpellsNone text = none_spelled text text none (text_lines-last text lacks some) (omega arith) in
    let all : front ++ text ≡ front ++ (text ++ ahead) = ap (λ (bytes : List ℕ). front ++ bytes) (sym (ap (λ (more : List ℕ). text ++ more) no_more ∙ append-nil text)) in
    subst (λ (bytes : List ℕ). FirstBadLine bytes (length lines + 1)) all (end_bad (front ++ text) lines text (whole_more front lines [] whole text lacks) some spells_none)
begun_bad front lines text ahead lacks some none whole (inr (inr long)) =
    subst (λ (bytes : List ℕ). FirstBadLine bytes (length lines + 1)) (append_assoc front text ahead) (broken_long front lines [] whole text lacks (omega arith) ahead)

-- the text of a line that is none, behind whole lines
bad_behind : (front : List ℕ) (lines : List Line) (text ahead : List ℕ) → IsText text → ReadsNone text → Whole front lines [] → IsEnded text ⊎ (ahead ≡ []) ⊎ (1049 < length text)
    → FirstBadLine (front ++ (text ++ ahead)) (length lines + 1)
unfolding text_lines
bad_behind front lines text ahead (inl ended) none whole ends =
    let alone : text_lines text ≡ ended.front ∷ [] = ap text_lines ended.is ∙ text_lines-cut ended.front [] ended.no_feed in
    let spells_none : SpellsNone ended.front = none_spelled text ended.front none alone (omega (arith, ap length ended.is, length-append ended.front (10 ∷ []))) in
    let all : (front ++ (ended.front ++ 10 ∷ [])) ++ ahead ≡ front ++ (text ++ ahead) =
    append_assoc front (ended.front ++ 10 ∷ []) ahead ∙ ap (λ (middle : List ℕ). front ++ (middle ++ ahead)) (sym ended.is) in
    subst (λ (bytes : List ℕ). FirstBadLine bytes (length lines + 1)) all (broken_line front lines [] whole ended.front [] ended.no_feed spells_none ahead)
bad_behind front lines text ahead (inr begun) none whole ends = begun_bad front lines text ahead begun.0 begun.1 none whole ends

-- what holds of all events holds of those before some
earlier_once : (events more : List Event) → EndsOnce (events ++ more) → EndsOnce events
earlier_once events more once front back is =
    let far : events ++ more ≡ front ++ moved [] ∷ (back ++ more) = ap (λ (first : List Event). first ++ more) is ∙ append_assoc front (moved [] ∷ back) more in
    none_left (bytes_of back) (bytes_of more) (sym (once front (back ++ more) far) ∙ bytes_append back more)

-- lines that are all whole, or the last of which stands at the end
are_lines : (after : List Event) (front : List ℕ) (lines : List Line) (ahead : List ℕ) → IsScript front lines → Whole front lines [] ⊎ ((ahead ≡ []) × HasEnded after)
    → AreLines after front lines ahead
are_lines after front lines ahead script (inl closed) = record { script = script; whole = inl (closed.is ∙ append-nil (script_text lines)) }
are_lines after front lines ahead script (inr over) = record { script = script; whole = inr over }

-- events one after another, in the other grouping
onward : (first rest more : List Event) → EndsOnce ((first ++ rest) ++ more) → EndsOnce (first ++ (rest ++ more))
onward first rest more once = subst EndsOnce (append_assoc first rest more) once

-- ---- lines that came

-- between any two states of a stream
record SpelledBetween {S : Type 0} (log : S → List Event) (old : Stream S) (lines : List Line) (new : Stream S) : Type 0 where
  pub events : List Event
  pub came : log new.source ≡ log old.source ++ events
  pub served : failures events ≡ 0
  pub front : List ℕ
  pub bytes : ahead_of old ++ bytes_of events ≡ front ++ ahead_of new
  pub spelled : EndsOnce events → IsScript front lines
  pub closed : (later : List Event) → EndsOnce (events ++ later) → Whole front lines [] ⊎ ((ahead_of new ≡ []) × (bytes_of later ≡ []) × HasEnded (log new.source))
  pub stays : lines ≡ [] → new ≡ old

module _ {S : Type 0} (log : S → List Event) where
  no_line : (old new : Stream S) → new ≡ old → SpelledBetween log old [] new
  unfolding text_lines
  no_line old new same = record {
    events = [];
    came = ap (λ (stream : Stream S). log stream.source) same ∙ sym (append-nil (log old.source));
    served = refl;
    front = [];
    bytes = append-nil (ahead_of old) ∙ ap ahead_of (sym same);
    spelled = λ once. tt;
    closed = λ more once. inl whole_none;
    stays = λ none. same;
  }

  one_more : (old between new : Stream S) (line : Line) (lines : List Line) → TakesLine log old line between → SpelledBetween log between lines new → SpelledBetween log old (line ∷ lines) new
  one_more old between new line lines takes rest =
      let text = takes.text in
      let first : List Event = takes.takes.events in
      let all : List Event = first ++ rest.events in
      record {
        events = all;
        came = came_behind (log old.source) (log between.source) (log new.source) first rest.events takes.takes.came rest.came;
        served = failures_append first rest.events ∙ omega (arith, takes.takes.served, rest.served);
        front = text ++ rest.front;
        bytes = ap (λ (bytes : List ℕ). ahead_of old ++ bytes) (bytes_append first rest.events)
            ∙ sym (append_assoc (ahead_of old) (bytes_of first) (bytes_of rest.events))
            ∙ ap (λ (bytes : List ℕ). bytes ++ bytes_of rest.events) takes.takes.order
            ∙ append_assoc text (ahead_of between) (bytes_of rest.events)
            ∙ ap (λ (bytes : List ℕ). text ++ bytes) rest.bytes
            ∙ sym (append_assoc text rest.front (ahead_of new));
        spelled = λ once. script once takes.whole;
        closed = λ more once. whole more once takes.whole;
        stays = λ none. absurd cc;
      }
    where
      whole : (more : List Event) → EndsOnce ((takes.takes.events ++ rest.events) ++ more) → HasText log old takes.text between
          → Whole (takes.text ++ rest.front) (line ∷ lines) [] ⊎ ((ahead_of new ≡ []) × (bytes_of more ≡ []) × HasEnded (log new.source))
      whole more once (inl ended) = elim (rest.closed more (later takes.takes.events (rest.events ++ more) (onward takes.takes.events rest.events more once))) [
        | inl closed ↦ inl (whole_first takes.text rest.front line lines ended takes.reads.1 closed)
        | inr over ↦ inr over
      ]
      whole more once (inr ends) =
          let first : List Event = takes.takes.events in
          let is : first ≡ ends.front ++ moved [] ∷ [] =
          sym (since_is (log old.source) (log between.source) first takes.takes.came) ∙ since_is (log old.source) (log between.source) (ends.front ++ moved [] ∷ []) ends.came in
          let all_once : EndsOnce (first ++ (rest.events ++ more)) = onward first rest.events more once in
          let none : bytes_of rest.events ++ bytes_of more ≡ [] = sym (bytes_append rest.events more) ∙ behind_end first (rest.events ++ more) ends.front is all_once in
          let none_rest : bytes_of rest.events ≡ [] = none_left (bytes_of rest.events) (bytes_of more) (sym none) in
          let left : [] ≡ rest.front ++ ahead_of new = sym (λ i. ends.none i ++ none_rest i) ∙ rest.bytes in
          let no_front : rest.front ≡ [] = none_left rest.front (ahead_of new) left in
          let no_ahead : ahead_of new ≡ [] = sym (left ∙ ap (λ (bytes : List ℕ). bytes ++ ahead_of new) no_front) in
          let no_bytes : bytes_of more ≡ [] = ap (λ (bytes : List ℕ). bytes ++ bytes_of more) (sym none_rest) ∙ none in
          let once_rest : EndsOnce rest.events = earlier_once rest.events more (later first (rest.events ++ more) all_once) in
          let no_more : lines ≡ [] = no_lines lines (subst (λ (bytes : List ℕ). IsScript bytes lines) no_front (rest.spelled once_rest)) in
          inr (no_ahead, no_bytes, subst (λ (stream : Stream S). HasEnded (log stream.source)) (sym (rest.stays no_more)) ends.ended)

      script : EndsOnce (takes.takes.events ++ rest.events) → HasText log old takes.text between → IsScript (takes.text ++ rest.front) (line ∷ lines)
      script once (inl ended) = ended_first takes.text rest.front line lines ended takes.reads.1 (rest.spelled (later takes.takes.events rest.events once))
      script once (inr ends) =
          let first : List Event = takes.takes.events in
          let is : first ≡ ends.front ++ moved [] ∷ [] =
          sym (since_is (log old.source) (log between.source) first takes.takes.came) ∙ since_is (log old.source) (log between.source) (ends.front ++ moved [] ∷ []) ends.came in
          let none : bytes_of rest.events ≡ [] = behind_end first rest.events ends.front is once in
          let left : [] ≡ rest.front ++ ahead_of new = sym ((λ i. ends.none i ++ none i)) ∙ rest.bytes in
          last_first takes.text rest.front line lines (none_left rest.front (ahead_of new) left) takes.reads.1 (rest.spelled (later first rest.events once))

  between : (old new : Stream S) (lines : List Line) → AllGiven (TakesLine log) old lines new → SpelledBetween log old lines new
  unfolding AllGiven
  between old new [] given = no_line old new given
  between old new (line ∷ lines) given = one_more old given.0 new line lines given.1 (between given.0 new lines given.2)

  -- a text behind the lines, from a stream of which nothing was taken
  module _ (old last new : Stream S) (lines : List Line) (none : ahead_of old ≡ []) (given : AllGiven (TakesLine log) old lines last) (text : List ℕ) (takes : TakesText log last text new) where
    so : SpelledBetween log old lines last
    so = between old last lines given

    all_came : log new.source ≡ log old.source ++ (so.events ++ takes.events)
    all_came = came_behind (log old.source) (log last.source) (log new.source) so.events takes.events so.came takes.came

    all_served : failures (so.events ++ takes.events) ≡ 0
    all_served = failures_append so.events takes.events ∙ omega (arith, so.served, takes.served)

    all_bytes : bytes_of (so.events ++ takes.events) ≡ so.front ++ (text ++ ahead_of new)
    all_bytes =
        bytes_append so.events takes.events
        ∙ ap (λ (bytes : List ℕ). bytes ++ bytes_of takes.events) (ap (λ (ahead : List ℕ). ahead ++ bytes_of so.events) (sym none) ∙ so.bytes)
        ∙ append_assoc so.front (ahead_of last) (bytes_of takes.events)
        ∙ ap (λ (bytes : List ℕ). so.front ++ bytes) takes.order

    earlier : EndsOnce (so.events ++ takes.events) → EndsOnce so.events
    earlier once = earlier_once so.events takes.events once

    closed_front : EndsOnce (so.events ++ takes.events) → 0 < length text → Whole so.front lines []
    closed_front once some = elim (so.closed takes.events once) [
      | inl closed ↦ closed
      | inr over ↦ absurd (omega (arith, some, ap length takes.order, length-append text (ahead_of new), length-append (ahead_of last) (bytes_of takes.events), ap length over.0, ap length over.1))
    ]

    front_lines : EndsOnce (so.events ++ takes.events) → (0 < length text) ⊎ ((text ++ ahead_of new ≡ []) × HasEnded (log new.source)) → AreLines (log new.source) so.front lines (text ++ ahead_of new)
    front_lines once (inl some) = are_lines (log new.source) so.front lines (text ++ ahead_of new) (so.spelled (earlier once)) (inl (closed_front once some))
    front_lines once (inr over) = are_lines (log new.source) so.front lines (text ++ ahead_of new) (so.spelled (earlier once)) (inr over)

    pub streamed_text : (0 < length text) ⊎ ((text ++ ahead_of new ≡ []) × HasEnded (log new.source)) → Streamed (log old.source) (log new.source) lines (text ++ ahead_of new)
    streamed_text end = record { events = so.events ++ takes.events; came = all_came; served = all_served; front = so.front; bytes = all_bytes; spelled = λ once. front_lines once end }

    module _ (is_text : IsText text) (is_none : ReadsNone text) (number : ℕ) (number_is : number ≡ raised (length lines)) where
      first_bad : EndsOnce (so.events ++ takes.events) → HasText log last text new ⊎ (1049 < length text) → FirstBadLine (so.front ++ (text ++ ahead_of new)) (length lines + 1)
      first_bad once whole = bad_behind so.front lines text (ahead_of new) is_text is_none (closed_front once (some_text text is_text)) (at_end_or_not whole)
        where
          at_end_or_not : HasText log last text new ⊎ (1049 < length text) → IsEnded text ⊎ (ahead_of new ≡ []) ⊎ (1049 < length text)
          at_end_or_not (inl (inl ended)) = inl ended
          at_end_or_not (inl (inr ends)) = inr (inl ends.none)
          at_end_or_not (inr long) = inr (inr long)

      pub streamed_bad : HasText log last text new ⊎ (1049 < length text) → StreamedBad (log old.source) (log new.source) lines number
      streamed_bad whole = record {
        events = so.events ++ takes.events;
        came = all_came;
        served = all_served;
        front = so.front;
        rest = text ++ ahead_of new;
        bytes = all_bytes;
        spelled = λ once.
            let closed = closed_front once (some_text text is_text) in
            (so.spelled (earlier once), closed.is ∙ append-nil (script_text lines));
        bad = λ once. subst (λ (bytes : List ℕ). FirstBadLine bytes (length lines + 1)) (sym all_bytes) (first_bad once whole);
        number_is = number_is;
      }

  -- from a stream of which nothing was taken
  pub streamed : (old new : Stream S) (lines : List Line) → ahead_of old ≡ [] → AllGiven (TakesLine log) old lines new → Streamed (log old.source) (log new.source) lines (ahead_of new)
  streamed old new lines none given =
      let so = between old new lines given in
      record {
        events = so.events;
        came = so.came;
        served = so.served;
        front = so.front;
        bytes = ap (λ (ahead : List ℕ). ahead ++ bytes_of so.events) (sym none) ∙ so.bytes;
        spelled = λ once. elim (so.closed [] (subst EndsOnce (sym (append-nil so.events)) once)) [
          | inl closed ↦ are_lines (log new.source) so.front lines (ahead_of new) (so.spelled once) (inl closed)
          | inr over ↦ are_lines (log new.source) so.front lines (ahead_of new) (so.spelled once) (inr (over.0, over.2))
        ];
      }

  -- so many lines were counted
  pub counted : (old new : Stream S) (lines : List Line) → lines_of old ≤ 2 ^ 64 - 1 → AllGiven (TakesLine log) old lines new → lines_of new ≡ min (lines_of old + length lines) (2 ^ 64 - 1)
  unfolding AllGiven
  counted old new [] few given = omega (arith, ap lines_of given)
  counted old new (line ∷ lines) few given =
      omega (arith, given.1.counted, counted given.0 new lines (omega (arith, given.1.counted)) given.2)
