-- What is written on a page.
use Rattle.std.specs.Prelude.{◌≡◌, Result, List, OnOk}
use Rattle.elan_print.specs.declared.page.Page.{Page}
use Rattle.elan_print.specs.Tokens.{Printed}
use Rattle.elan_print.specs.Sides.{Sheet, put_all}

-- the text so far, and whether no space may stand before the next token
abbrev pub sheet : Page → Sheet
sheet page = record { text = page.text.items; tight = page.tight }

-- at `Ok` these tokens stand on the page behind what it had
abbrev pub Puts : {A E : Type 0} → Result A E → Page → Page → List Printed → Type 0
Puts result old new ps = OnOk result (sheet new ≡ put_all (sheet old) ps)
