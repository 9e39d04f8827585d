-- Nothing but digits in lower case is the digits of bytes.
use Rattle.std.proofs.Common.{true≢false, sym, ap, ◌∙◌}
use Rattle.std.specs.List.{list_all}
use Rattle.rssd_script.specs.Text.{is_lower_digit}
use Rattle.rssd_script.proofs.HexTexts.{hex_is_lower}
use Rattle.rssd_script.proofs.hex_text.read_hex.Goals as goal

pub returns-then-not-is_lower : goal.returns-then-not-is_lower
returns-then-not-is_lower c b fits e =
    true≢false (sym (hex_is_lower b fits) ∙ ap (list_all is_lower_digit) (sym e) ∙ sym c.is_lower.ensures ∙ c.if-not-is_lower.true)
