-- What the scanner gives, as the definitions have it.
use Rattle.code_scan.specs.declared.scanner.Scanned.{Scanned}
use Rattle.code_scan.specs.Tokens.{Found}

abbrev pub found_of : Scanned → Found
found_of s = record { tokens = s.tokens; unread = s.unread }
