mod Ends
mod Lists
mod Requests
