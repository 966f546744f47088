-- How long the text of a flow is.
use Prim.Native.Nat.{◌+◌, ◌≤◌}
use mathlib.Core.Path.{◌≡◌}
use mathlib.Core.Bool.{true}
use mathlib.Core.List.{◌∷◌}
use native.Mathlib.Omega.{arith}
use lib.Dec.{T}
use lib.ListN.{length, length-append}
use lib.Ieee.{binary64, fits}
use lib.Ieee.Scale.{finite}
use Rattle.calendar.specs.dates.Dates.{is_date}
use Rattle.cash_flow.specs.declared.flow.CashFlow.{CashFlow}
use Rattle.flow_text.specs.date.DateTexts.{date_text}
use Rattle.flow_text.proofs.date.Dates.{date_long}
use Rattle.flow_text.specs.amount.AmountTexts.{amount_text}
use Rattle.flow_text.proofs.amount.Lengths.{amount_long, decimal_long}
use Rattle.flow_text.specs.flow.Texts.{flow_text}

pub flow_parts : (f : CashFlow) → length (flow_text f) ≡ length (date_text f.date) + length (32 ∷ amount_text f.amount f.currency)
unfolding flow_text
flow_parts f = length-append (date_text f.date) (32 ∷ amount_text f.amount f.currency)

pub flow_long : (f : CashFlow) → is_date f.date ≡ true → length (flow_text f) ≡ 11 + length (amount_text f.amount f.currency)
flow_long f h = omega (arith, flow_parts f, date_long f.date h)

-- so no flow takes more than 330 bytes
pub flow-most : (f : CashFlow) → T (fits binary64 f.amount) → finite f.amount ≡ true → is_date f.date ≡ true → length (flow_text f) ≤ 330
flow-most f b h d = omega (arith, flow_long f d, amount_long f.amount f.currency, decimal_long f.amount b h)
