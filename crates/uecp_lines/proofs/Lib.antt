mod Places
mod ReplyDigits
