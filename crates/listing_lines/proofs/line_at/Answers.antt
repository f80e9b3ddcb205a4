use Rattle.listing_parts.proofs.Appending.{put-taken}
use Rattle.listing_lines.proofs.Made.{line_made}
use Rattle.listing_lines.proofs.line_at.Goals as goal

-- `listing_lines::line_at` meets its contract. Assumes nothing.
pub returns : goal.returns
returns c =
    let shown = c.show-found.ensures in
    let made = line_made _ _ _ _ _ _ _ _ _ _ _ (put-taken _ _ _ _ shown.text) c.put_line-size.ensures shown.next in
    record { value = made.0; line_after = made.1; fixed_after = shown.told }
